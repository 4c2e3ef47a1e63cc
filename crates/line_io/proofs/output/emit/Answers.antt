use Rattle.std.proofs.Common.{ℕ, ◌+◌, ◌-◌, List, Option, length, take, drop, rules, arith, sym, length-take, length-drop}
use Rattle.std.proofs.KnownBytes.{Appends-kept, Appends-trans}
use Rattle.std.proofs.Math.Seq.{take-add}
use Rattle.std.proofs.lemmas.List.{take_rest, take-append-drop}
use Rattle.std.specs.Io.KnownBytes.{Appends}
use Rattle.line_io.proofs.output.emit.Goals as goal

-- one more put takes the next bytes
sent_more : (a b c : Option (List ℕ)) (bytes : List ℕ) (sent count : ℕ)
    → Appends a b (take sent bytes)
    → Appends b c (take count (take (length bytes - sent) (drop sent bytes)))
    → Appends a c (take (sent + count) bytes)
sent_more a b c bytes sent count p q =
    rw (take-add sent count bytes) (Appends-trans a b c _ _ p (rw take_rest at q))

pub loop-sent-preserved : goal.loop-sent-preserved
loop-sent-preserved g c =
    let takes = c.in-Ok.ensures.takes in
    record {
      sound = search rules;
      within = omega (arith, length-take {A = ℕ}, length-drop {A = ℕ}, c.in-Ok.ensures.bound);
      taken = sent_more _ _ _ _ _ _ c.loop-sent.invariant.taken takes.moved;
    }

pub returns-in-Err : goal.returns-in-Err
returns-in-Err g c =
    let takes = c.in-Err.ensures.takes in
    record {
      takes = record {
        whole = tt;
        front = record {
          front = take c.loop-sent.sent c.args.bytes.now;
          rest = drop c.loop-sent.sent c.args.bytes.now;
          splits = sym (take-append-drop _ _);
          added = Appends-kept _ _ _ _ c.loop-sent.invariant.taken takes.moved;
        };
      };
      ends = record { sound = tt; fault = search rules };
    }
