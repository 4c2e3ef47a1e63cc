use Rattle.std.proofs.Common.{◌≡◌, ℕ, ◌≤◌, ◌∙◌, true, inl, inr, Some, pos, ap, length, get_or, sym, arith}
use Rattle.std.specs.List.{slice_get}
use Rattle.std.proofs.lemmas.Bool.{cases_lt}
use Rattle.std.proofs.lemmas.List.Sums.{position_or_len_is}
use Rattle.std.proofs.lemmas.Option.{get_or_from_slice_get, slice_get_within}
use Rattle.le_rec.specs.declared.records.Thing.{Thing}
use Rattle.map_level.specs.Links.{things_of}
use Rattle.game_numbers.specs.Kinds.{second_game}
use Rattle.game_numbers.specs.Number.{is_one_of}
use Rattle.game_warnings.proofs.ending.first_game_count.Goals as goal

pub returns-then-is_of_second_game : goal.returns-then-is_of_second_game
returns-then-is_of_second_game c =
    let things = things_of c.args.level.now in
    let at : slice_get things c.loop-k.k ≡ Some c.at.result = rw (← c.things-things.ensures.is) c.at.ensures in
    let inside = slice_get_within things c.loop-k.k c.at.result at in
    let thing = c.at.result in
    let is : is_one_of second_game (get_or things c.loop-k.k thing).kind ≡ true =
    ap (λ (t : Thing). is_one_of second_game t.kind) (get_or_from_slice_get things c.loop-k.k thing thing at)
    ∙ sym c.if-is_of_second_game.ensures in
    record {
      is =
          sym (position_or_len_is (λ (t : Thing). is_one_of second_game t.kind) things c.loop-k.k thing (omega (arith, inside))
          (λ j below. c.loop-k.invariant j thing below) (λ h. is));
      few = omega (arith, inside);
    }

pub loop-k-preserved : goal.loop-k-preserved
loop-k-preserved c j d below =
    let things = things_of c.args.level.now in
    let at : slice_get things c.loop-k.k ≡ Some c.at.result = rw (← c.things-things.ensures.is) c.at.ensures in
    elim (cases_lt j c.loop-k.k) [
      | inl less ↦ c.loop-k.invariant j d less
      | inr past ↦
          let same : j ≡ c.loop-k.k = omega (arith, past, below) in
          ap (λ (n : ℕ). is_one_of second_game (get_or things n d).kind) same
          ∙ ap (λ (t : Thing). is_one_of second_game t.kind) (get_or_from_slice_get things c.loop-k.k c.at.result d at)
          ∙ sym c.if-is_of_second_game.ensures
    ]

-- a thing, for what stands past the end
some_thing : Thing
some_thing = record { x = pos 0; y = pos 0; angle = pos 0; kind = pos 0; options = pos 0 }

pub returns : goal.returns
returns c =
    let things = things_of c.args.level.now in
    let long : c.len-count.result ≡ length things = rw (← c.things-things.ensures.is) c.len-count.ensures in
    let all : c.len-count.result ≤ c.loop-k.k = c.loop-k-test.false in
    record {
      is =
          sym (position_or_len_is (λ (t : Thing). is_one_of second_game t.kind) things c.len-count.result some_thing (omega (arith, long))
          (λ j below. c.loop-k.invariant j some_thing (omega (arith, all, below))) (λ h. absurd (omega (arith, h, long))));
      few = omega (arith, long);
    }
