use Rattle.std.proofs.Common.{◌≡◌, ◌-◌, ◌++◌, Option, List, ℕ, length, length-take, length-drop, take, arith, sym, ◌∙◌, refl, subst}
use Rattle.std.proofs.KnownBytes.{Consumes-kept, Consumes-trans}
use Rattle.std.proofs.lemmas.List.{length-take-le, take_all}
use Rattle.std.specs.Io.KnownBytes.{Consumes}
use Rattle.demo_lump.proofs.FillingLemmas.{filled_more, length-filled_more, length-put_mid}
use Rattle.demo_lump.proofs.intake.Intake.fill.Goals as goal

given_more : (old mid new : Option (List ℕ)) (buf part all : List ℕ) (filled count : ℕ)
    → all ≡ take filled buf ++ take count part → Consumes old mid (take filled buf)
    → Consumes mid new (take count part) → Consumes old new all
given_more old mid new buf part all filled count cut before more =
    subst (λ (xs : List ℕ). Consumes old new xs) (sym cut)
    (Consumes-trans old mid new _ _ before more)

pub returns-then-self-clause-takes : goal.returns-then-self-clause-takes
returns-then-self-clause-takes g c =
    let i = c.turns.invariant in
    let part : length c.pull.new.buf ≡ c.min-most.result - c.turns.filled =
    omega (
      arith,
      c.pull.auto.buf,
      length-take {A = ℕ},
      length-drop {A = ℕ},
      c.turns.auto.buf,
      c.min-most.ensures,
    ) in
    let cut =
    filled_more c.turns.filled c.in-Ok.count (c.min-most.result - c.turns.filled) c.turns.buf
    c.pull.new.buf i.room c.in-Ok.ensures.bound in
    let long =
    length-filled_more c.turns.filled c.in-Ok.count (c.min-most.result - c.turns.filled)
    c.turns.buf c.pull.new.buf i.room c.in-Ok.ensures.bound in
    record {
      read = _;
      given =
          given_more _ _ _ c.turns.buf c.pull.new.buf _ c.turns.filled c.in-Ok.count cut i.given
          c.in-Ok.ensures.gives.moved.0;
      counted = omega (arith, long, i.counted);
      wanted =
          omega (arith, long, part, c.turns.auto.buf, c.min-most.ensures, c.in-Ok.ensures.bound);
      found = tt;
      ended = tt;
      within = tt;
      sound = tt;
      fault = (
        c.in-Ok.ensures.gives.fault ∙ rw i.sound refl,
        omega (
          arith,
          part,
          c.min-most.ensures,
          c.in-Ok.ensures.bound,
          i.limit,
          i.counted,
          i.within,
        ),
      );
    }

pub turns-preserved : goal.turns-preserved
turns-preserved g c =
    let i = c.turns.invariant in
    let part : length c.pull.new.buf ≡ c.min-most.result - c.turns.filled =
    omega (
      arith,
      c.pull.auto.buf,
      length-take {A = ℕ},
      length-drop {A = ℕ},
      c.turns.auto.buf,
      c.min-most.ensures,
    ) in
    let cut =
    filled_more c.turns.filled c.in-Ok.count (c.min-most.result - c.turns.filled) c.turns.buf
    c.pull.new.buf i.room c.in-Ok.ensures.bound in
    record {
      turns = omega arith;
      sound = c.in-Ok.ensures.gives.fault ∙ rw i.sound refl;
      room =
          rw
          (length-put_mid c.turns.filled (c.min-most.result - c.turns.filled) c.turns.buf
          c.pull.new.buf (omega (
            arith,
            c.min-most.ensures,
            c.turns.auto.buf,
            c.if-filled-buf.false,
            part,
            c.in-Ok.ensures.bound,
            c.if-count-eq0.false,
          )) part)
          (omega (arith, part, c.turns.auto.buf, c.min-most.ensures, c.in-Ok.ensures.bound));
      limit = i.limit;
      within = c.if-self.false;
      counted = omega (arith, i.counted);
      given =
          given_more _ _ _ c.turns.buf c.pull.new.buf _ c.turns.filled c.in-Ok.count cut i.given
          c.in-Ok.ensures.gives.moved.0;
    }

pub returns-in-Err-clause-takes : goal.returns-in-Err-clause-takes
returns-in-Err-clause-takes g c =
    let i = c.turns.invariant in
    let long : length (take c.turns.filled c.turns.buf) ≡ c.turns.filled =
    length-take-le _ _ i.room in
    record {
      read = take c.turns.filled c.turns.buf;
      given = Consumes-kept _ _ _ _ i.given c.in-Err.ensures.gives.moved;
      counted = omega (arith, long, i.counted);
      wanted = omega (arith, long, c.turns.auto.buf, i.room);
      found = tt;
      ended = tt;
      within = tt;
      sound = tt;
      fault = (
        c.in-Err.ensures.gives.fault ∙ rw i.sound refl,
        omega (arith, i.limit, i.within),
        omega (arith, long, c.if-filled-buf.false, c.turns.auto.buf),
      );
    }

pub returns-then-filled-buf-clause-takes : goal.returns-then-filled-buf-clause-takes
returns-then-filled-buf-clause-takes g c =
    let i = c.turns.invariant in
    let long : length (take c.turns.filled c.turns.buf) ≡ c.turns.filled =
    length-take-le _ _ i.room in
    record {
      read = take c.turns.filled c.turns.buf;
      given = i.given;
      counted = omega (arith, long, i.counted);
      wanted = omega (arith, long, c.turns.auto.buf, i.room);
      found = take_all c.turns.filled c.turns.buf (omega (arith, c.if-filled-buf.true));
      ended = λ few. absurd (omega (arith, few, long, c.turns.auto.buf, c.if-filled-buf.true));
      within = omega (arith, i.limit, i.within);
      sound = i.sound;
      fault = tt;
    }
