-- How the warnings that a picture marks are put together.
use Rattle.std.proofs.Common.{◌≡◌, List, [], ◌++◌, ap, ◌∙◌, subst}
use Rattle.level_codes.specs.declared.code.WarningCode.TheVariants.{W1, W2, W3, W6, W11, W14, W15, W16, W17, W21}
use Rattle.map_level.specs.Level.{Level}
use Rattle.map_picture.specs.WarningMarks.{AddsAll, AddsGame, AreMarked}
use Rattle.map_picture.specs.declared.warned.MarkedWarnings.{MarkedWarnings}
use Rattle.map_warnings.specs.declared.warning.Warning.{Warning}

-- what the released game does is added code by code
pub adds_game : (asked : MarkedWarnings) (level : Level) (old one two three four new : List Warning)
    → AddsAll asked.unknown_specials level W14 old one → AddsAll asked.zero_tags level W15 one two → AddsAll asked.crossings level W16 two three
    → AddsAll asked.effects level W17 three four → AddsAll asked.odd_things level W21 four new → AddsGame asked level old new
adds_game asked level old one two three four new specials tags crossings effects things = record {
  specials = specials.all;
  tags = tags.all;
  crossings = crossings.all;
  effects = effects.all;
  things = things.all;
  are_specials = specials.are;
  are_tags = tags.are;
  are_crossings = crossings.are;
  are_effects = effects.are;
  are_things = things.are;
  is = things.is ∙ ap (λ ws. ws ++ things.all)
      (effects.is ∙ ap (λ ws. ws ++ effects.all)
      (crossings.is ∙ ap (λ ws. ws ++ crossings.all)
      (tags.is ∙ ap (λ ws. ws ++ tags.all) specials.is)));
}

-- and so are all, from none on
pub marked_with : (asked : MarkedWarnings) (checks level : Level) (start one two three four five new : List Warning) → checks ≡ level → start ≡ []
    → AddsAll asked.unclosed checks W1 start one → AddsAll asked.bare checks W2 one two → AddsAll asked.in_void checks W3 two three
    → AddsAll asked.twins checks W6 three four → AddsAll asked.unknown_things checks W11 four five → AddsGame asked checks five new
    → AreMarked asked level new
marked_with asked checks level start one two three four five new same none unclosed bare in_void twins unknown game =
    let before : five ≡ unclosed.all ++ bare.all ++ in_void.all ++ twins.all ++ unknown.all =
    unknown.is ∙ ap (λ ws. ws ++ unknown.all)
    (twins.is ∙ ap (λ ws. ws ++ twins.all)
    (in_void.is ∙ ap (λ ws. ws ++ in_void.all)
    (bare.is ∙ ap (λ ws. ws ++ bare.all) (unclosed.is ∙ ap (λ ws. ws ++ unclosed.all) none)))) in
    subst (λ (l : Level). AreMarked asked l new) same (record {
      unclosed = unclosed.all;
      bare = bare.all;
      in_void = in_void.all;
      twins = twins.all;
      unknown = unknown.all;
      are_unclosed = unclosed.are;
      are_bare = bare.are;
      are_in_void = in_void.are;
      are_twins = twins.are;
      are_unknown = unknown.are;
      game = subst (λ (ws : List Warning). AddsGame asked checks ws new) before game;
    })
