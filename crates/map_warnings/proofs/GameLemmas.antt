-- What the game does is told among the warnings, and reserved codes tell none.
use Rattle.std.proofs.Common.{◌≡◌, ◌≢◌, ◌↔◌, ℕ, ◌<◌, ◌-◌, ◌^◌, Bool, true, false, List, Option, length, map, get_or, refl, sym, ap, ◌∙◌, subst, arith}
use Rattle.std.specs.Prelude.{Contains, IfOk, IsTrue, Result, Ok, Err, min}
use Rattle.std.proofs.lemmas.Bool.{true≢false}
use Rattle.std.proofs.lemmas.List.{get_or-map, length-map, take-map}
use Rattle.std.proofs.lemmas.List.Elements.{Contains-get_or}
use Rattle.game_warnings.specs.Holds as game
use Rattle.game_warnings.specs.Warnings as told
use Rattle.game_warnings.specs.declared.code.GameCode.{GameCode}
use Rattle.game_warnings.specs.declared.code.GameCode.TheVariants as code
use Rattle.game_warnings.specs.declared.warning.GameWarning.{GameWarning}
use Rattle.game_warnings.specs.declared.warning.GameWarning.TheVariants.{UnknownSpecial, ManyStarts}
use Rattle.level_codes.specs.Codes as codes
use Rattle.level_codes.specs.declared.code.ReportCode.TheVariants as report
use Rattle.level_codes.specs.declared.code.WarningCode.{WarningCode}
use Rattle.level_codes.specs.declared.code.WarningCode.TheVariants.{W1, W2, W3, W4, W5, W6, W7, W8, W9, W10, W11, W12, W13, W15, W16, W17, W18, W19, W20, W21, W22, W23, W24, W25}
use Rattle.map_level.specs.Level.{Level}
use Rattle.wad_dir.specs.Wad.{Wad}
use Rattle.map_warnings.specs.Game.{report_code}
use Rattle.map_warnings.specs.Holds.{EndsAt, HoldsIn, IsWarning}
use Rattle.map_warnings.specs.Warnings.{code_of, Cut, ends_game, rank, Tells, warnings_of}
use Rattle.map_warnings.specs.declared.warning.Warning.{Warning}
use Rattle.map_warnings.specs.declared.warning.Warning.TheVariants.{Unclosed, Game}
use Rattle.map_warnings.proofs.ToldLemmas.{told_whole}

-- no warning has a reserved code
abbrev pub reserved : WarningCode → Bool
reserved W12 = true
reserved W13 = true
reserved W20 = true
reserved W23 = true
reserved W24 = true
reserved _ = false

unreserved_code : (c : GameCode) → reserved (report_code c) ≡ false
unreserved_code code.W14 = refl
unreserved_code _ = refl

unreserved : (w : Warning) → reserved (code_of w) ≡ false
unreserved (Unclosed sector vertex) = refl
unreserved (Game w) = unreserved_code (told.code_of w)
unreserved _ = refl

pub none_reserved : (files : Option (List Wad)) (level : Level) (c : WarningCode) → reserved c ≡ true → (w : Warning) → ¬ HoldsIn files level c w
none_reserved files level c is w h = true≢false (sym is ∙ ap reserved (sym h.0) ∙ unreserved w)

-- the game's codes are codes of the report, each one of its own
abbrev game_by : WarningCode → GameCode
game_by W15 = code.W15
game_by W16 = code.W16
game_by W17 = code.W17
game_by W18 = code.W18
game_by W19 = code.W19
game_by W21 = code.W21
game_by W22 = code.W22
game_by W25 = code.W25
game_by _ = code.W14

game_back : (c : GameCode) → game_by (report_code c) ≡ c
game_back code.W14 = refl
game_back _ = refl

same_code : (a b : GameCode) → report_code a ≡ report_code b → a ≡ b
same_code a b e = sym (game_back a) ∙ ap game_by e ∙ game_back b

-- they are those of what the game does, and of no other warning
abbrev pub is_game : WarningCode → Bool
is_game W1 = false
is_game W2 = false
is_game W3 = false
is_game W4 = false
is_game W5 = false
is_game W6 = false
is_game W7 = false
is_game W8 = false
is_game W9 = false
is_game W10 = false
is_game W11 = false
is_game _ = true

game_code : (c : GameCode) → is_game (report_code c) ≡ true
game_code code.W14 = refl
game_code _ = refl

pub not_game : {k : WarningCode} (c : GameCode) → is_game k ≡ false → report_code c ≢ k
not_game c other e = true≢false (sym (game_code c) ∙ ap is_game e ∙ other)

-- what the game does has no other code
pub game_only : (files : Option (List Wad)) (level : Level) (k : WarningCode) (w : GameWarning) → is_game k ≡ false → ¬ HoldsIn files level k (Game w)
game_only files level k w other h = not_game (told.code_of w) other h.0

of_game : (c : GameCode) (w : Warning) → code_of w ≡ report_code c → (v : GameWarning) × (w ≡ Game v)
of_game c (Unclosed sector vertex) e = absurd (true≢false (sym (game_code c) ∙ ap is_game (sym e)))
of_game c (Game v) e = (v, refl)
of_game c _ e = absurd (true≢false (sym (game_code c) ∙ ap is_game (sym e)))

-- what the game does is among the warnings exactly where it is among what the game does
contains_game : (all : List GameWarning) (w : Warning)
    → Contains (map (λ v. Game v) all) w ↔ ((v : GameWarning) × (w ≡ Game v) × Contains all v)
contains_game all w = (
  (λ there.
      let within : there.0 < length all = rw (length-map all (λ v. Game v)) at there.1 in
      let v = get_or all there.0 (UnknownSpecial 0) in
      (v, sym there.2 ∙ get_or-map (λ v. Game v) all there.0 (UnknownSpecial 0) w within, Contains-get_or all there.0 (UnknownSpecial 0) within)),
  (λ is.
      let within : is.2.0 < length (map (λ v. Game v) all) = rw (length-map all (λ v. Game v)) is.2.1 in
      (is.2.0, within, get_or-map (λ v. Game v) all is.2.0 is.0 w is.2.1 ∙ ap (λ v. Game v) is.2.2 ∙ sym is.1)),
)

-- a report of the game's is one of the report
pub tells_game : (files : Option (List Wad)) (level : Level) (c : GameCode) (cut : told.Cut) → told.Tells (game.HoldsIn files level c) cut
    → Tells (HoldsIn files level (report_code c)) (warnings_of cut)
tells_game files level c cut tells = record {
  all = map (λ v. Game v) tells.all;
  are = record {
    ascending = λ i j d before below.
        let within : j < length tells.all = rw (length-map tells.all (λ v. Game v)) at below in
        let first = get_or-map (λ v. Game v) tells.all i (UnknownSpecial 0) d (omega (arith, before, within)) in
        let second = get_or-map (λ v. Game v) tells.all j (UnknownSpecial 0) d within in
        subst (λ (w : Warning). rank w < rank (get_or (map (λ v. Game v) tells.all) j d)) (sym first)
        (subst (λ (w : Warning). rank (Game (get_or tells.all i (UnknownSpecial 0))) < rank w) (sym second)
        (tells.are.ascending i j (UnknownSpecial 0) before within));
    exact = λ w. (
      (λ there.
          let is = (contains_game tells.all w).0 there in
          let holds = (tells.are.exact is.0).0 is.2 in
          subst (HoldsIn files level (report_code c)) (sym is.1) (ap report_code holds.0, holds.1)),
      (λ h.
          let is = of_game c w h.0 in
          let holds = subst (HoldsIn files level (report_code c)) is.1 h in
          (contains_game tells.all w).1 (is.0, is.1, (tells.are.exact is.0).1 (same_code (told.code_of is.0) c holds.0, holds.1))),
    );
  };
  is = record {
    first = ap (λ vs. map (λ v. Game v) vs) tells.is.first ∙ sym (take-map (λ v. Game v) cut.most tells.all);
    count = tells.is.count ∙ ap (λ n. min n (2 ^ 64 - 1)) (sym (length-map tells.all (λ v. Game v)));
  };
}

pub ok_game : {E : Type 0} (files : Option (List Wad)) (level : Level) (c : GameCode) (cut : told.Cut) (result : Result Cut E)
    → told.Tells (game.HoldsIn files level c) cut → IfOk result (λ all. all ≡ warnings_of cut) → IfOk result (Tells (HoldsIn files level (report_code c)))
ok_game files level c cut (Ok all) tells is = subst (Tells (HoldsIn files level (report_code c))) (sym is) (tells_game files level c cut tells)
ok_game files level c cut (Err fault) tells is = tt

-- the game ends at a warning as its code says, but for one of W22
pub ends_by_code : (w : Warning) → ends_game w ≡ true → codes.ends_game (report.Warning (code_of w)) ≡ true
ends_by_code (Unclosed sector vertex) ends = ends
ends_by_code (Game (ManyStarts starts)) ends = absurd (true≢false (sym ends))
ends_by_code (Game _) ends = ends
ends_by_code _ ends = ends

pub ends_other : (w : Warning) → code_of w ≢ W22 → ends_game w ≡ codes.ends_game (report.Warning (code_of w))
ends_other (Unclosed sector vertex) other = refl
ends_other (Game (ManyStarts starts)) other = absurd (other refl)
ends_other (Game _) other = refl
ends_other _ other = refl

-- where all warnings of a code are kept, the game ends at one that is reported exactly where it ends at one that is kept
pub ends_told : (files : Option (List Wad)) (level : Level) (k : WarningCode) (cut : Cut) (ends : Bool) → Tells (IsWarning files level k) cut
    → cut.most ≡ 2 ^ 64 - 1 → cut.count ≢ 2 ^ 64 - 1
    → (IsTrue ends ↔ ((w : Warning) × Contains cut.first w × (ends_game w ≡ true))) → IsTrue ends ↔ ((w : Warning) × EndsAt files level k w)
ends_told files level k cut ends tells most fewer is =
    let all = told_whole (IsWarning files level k) cut tells most fewer in (
      (λ yes. let some = is.0 yes in (some.0, record { reported = (all.exact some.0).0 some.1; ends = some.2 })),
      (λ some. is.1 (some.0, (all.exact some.0).1 some.1.reported, some.1.ends)),
    )
