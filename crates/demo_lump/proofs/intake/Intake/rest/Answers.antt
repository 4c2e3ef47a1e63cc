use Rattle.std.proofs.Common.{◌≡◌, ◌++◌, ℕ, length, length-take, take, arith, ◌∙◌, refl, length-append}
use Rattle.std.proofs.KnownBytes.{Consumes-kept, Consumes-trans}
use Rattle.std.proofs.lemmas.List.{length-take-le}
use Rattle.demo_lump.proofs.intake.Intake.rest.Goals as goal

pub turns-preserved : goal.turns-preserved
turns-preserved g c =
    let i = c.turns.invariant in
    let s = i.so_far in
    let more = take c.in-Ok.count c.pull.new.buf in
    let long : length more ≡ c.in-Ok.count = length-take-le _ _ c.in-Ok.ensures.bound in
    record {
      turns = omega arith;
      sound = c.in-Ok.ensures.gives.fault ∙ rw i.sound refl;
      limit = i.limit;
      more = omega (arith, i.more);
      start = i.start;
      within =
          omega (
            arith,
            length-take {A = ℕ},
            c.pull.auto.buf,
            c.min-room.ensures,
            c.in-Ok.ensures.bound,
            i.within,
            c.if-self.false,
          );
      so_far = record {
        read = s.read ++ more;
        given = Consumes-trans _ _ _ s.read more s.given c.in-Ok.ensures.gives.moved.0;
        counted = length-append s.read more ∙ omega (arith, s.counted, long, i.more);
      };
    }

pub returns-then-self-clause-takes : goal.returns-then-self-clause-takes
returns-then-self-clause-takes g c =
    let i = c.turns.invariant in
    let s = i.so_far in
    let more = take c.in-Ok.count c.pull.new.buf in
    let long : length more ≡ c.in-Ok.count = length-take-le _ _ c.in-Ok.ensures.bound in
    record {
      read = s.read ++ more;
      given = Consumes-trans _ _ _ s.read more s.given c.in-Ok.ensures.gives.moved.0;
      counted = omega (arith, length-append s.read more, s.counted, long, i.more);
      found = tt;
      ended = tt;
      within = tt;
      sound = tt;
      fault = (c.in-Ok.ensures.gives.fault ∙ rw i.sound refl, omega (arith, i.limit, c.if-self.true));
    }

pub returns-in-Err-clause-takes : goal.returns-in-Err-clause-takes
returns-in-Err-clause-takes g c =
    let i = c.turns.invariant in
    let s = i.so_far in
    record {
      read = s.read;
      given = Consumes-kept _ _ _ s.read s.given c.in-Err.ensures.gives.moved;
      counted = omega (arith, s.counted, i.more);
      found = tt;
      ended = tt;
      within = tt;
      sound = tt;
      fault = (
        c.in-Err.ensures.gives.fault ∙ rw i.sound refl,
        omega (arith, i.limit, i.within),
      );
    }
