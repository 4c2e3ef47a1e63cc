use Rattle.std.proofs.Common.{◌≡◌, ◌≢◌, ◌+◌, ◌<◌, ◌∙◌, drop, get_or, length, arith, sym}
use Rattle.std.proofs.lemmas.List.{drop_all}
use Rattle.std.proofs.lemmas.List.Elements.{All-nil, All-same}
use Rattle.map_warnings.specs.Buckets.{bucket_in}
use Rattle.map_warnings.specs.KeyLinks.{of_key}
use Rattle.map_warnings.proofs.LinkLemmas.{rest_more}
use Rattle.map_warnings.proofs.apart.is_new.Goals as goal

pub loop-turn-init : goal.loop-turn-init
loop-turn-init c =
    let numbers = c.args.numbers.now in
    let link = c.requires.links.first c.args.bucket c.requires.below in
    record {
      after = link.after;
      within = link.within;
      here = link.here;
      left = All-same (λ n. get_or numbers c.args.i 0 ≢ n) _ _ (sym link.same);
    }

pub loop-turn-preserved : goal.loop-turn-preserved
loop-turn-preserved c =
    let numbers = c.args.numbers.now in
    let at = c.loop-turn.at in
    let inside : at < length numbers = c.if-at-numbers.false in
    let is : bucket_in (get_or numbers at 0) ≡ c.args.bucket = c.loop-turn.invariant.here inside in
    let link = c.requires.links.behind at c.loop-turn.invariant.after inside in
    let rest = drop (c.args.i + 1) numbers in
    record {
      after = omega (arith, link.after, c.loop-turn.invariant.after);
      within = link.within;
      here = λ there. link.here there ∙ is;
      left = rest_more bucket_in (λ n. get_or numbers c.args.i 0 ≢ n) numbers (of_key bucket_in c.args.bucket rest) c.args.bucket at
          (get_or c.args.next.now at 0) inside is link (λ same. c.if-numbers-at.false (sym same)) c.loop-turn.invariant.left;
    }

pub returns-then-at-numbers : goal.returns-then-at-numbers
returns-then-at-numbers c = λ _.
    let numbers = c.args.numbers.now in
    c.loop-turn.invariant.left (rw (drop_all c.loop-turn.at numbers c.if-at-numbers.true) (All-nil (λ n. get_or numbers c.args.i 0 ≢ n)))
