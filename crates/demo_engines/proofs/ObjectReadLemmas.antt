-- The object of a demo is read back as its members.
use Rattle.std.proofs.Common.{◌≡◌, ℕ, ◌+◌, ◌<◌, ◌^◌, Bool, true, false, List, [], ◌∷◌, ◌++◌, Option, Some, None, cond, get_or, length, length-append, take, refl, sym, ap, subst, arith, lit<, append_assoc}
use Rattle.std.specs.Prelude.{All, codes}
use Rattle.std.proofs.lemmas.List.{append-nil, get_or-append-add, get_or_append_left}
use Rattle.json.specs.Json.{Json}
use Rattle.le_rec.specs.Name.{name_of, shown_name}
use Rattle.demo_lump.specs.Header.{players_in}
use Rattle.demo_lump.specs.declared.header.Header.{Header}
use Rattle.later_demos.specs.Demo.{Demo}
use Rattle.later_demos.specs.Footer.{Footer}
use Rattle.later_demos.specs.Layout.{name_of as engine_name}
use Rattle.later_demos.specs.declared.layout.Engine.{Engine}
use Rattle.later_demos.specs.declared.layout.Engine.TheVariants.{Early, Doom, Boom, Mbf, PrBoom, Mbf21}
use Rattle.later_demos.specs.declared.wrapper.Wrapper.{Wrapper}
use Rattle.later_demos.specs.declared.wrapper.Wrapper.TheVariants.{Dsda, PrUm}
use Rattle.lens_texts.proofs.MemberLemmas.{IsPlain, Tells, Tells-both, Tells-each, Tells-none, Tells-number, Tells-string, read_line}
use Rattle.lens_texts.specs.JsonString.{json_string}
use Rattle.lens_texts.specs.Members.{IsLineOf, number_at, text_at}
use Rattle.lens_texts.specs.LevelObject.{file_member, number_member}
use Rattle.demo_engines.specs.Laws.{ObjectIsRead, RefusedIsRead}
use Rattle.demo_engines.specs.ObjectValues.{all_numbers, demo_value, engine_values, footer_values, frame_number, length_numbers, level_numbers, lump_values, numbers_at, refused_value, rule_numbers, version_number, wrapper_numbers, wrapper_values}
use Rattle.demo_engines.specs.Objects.{end_members, engine_member, footer_member, frame_member, has_rules, length_members, level_members, lump_member, map_name_member, rule_members, rules_or_none, text_member, version_members, wrapper_members}
use Rattle.demo_engines.specs.Summary.{full_tics, game, odd_commands}

lump_tells : (lump : Option (List ℕ)) → Tells (lump_member lump) (lump_values lump)
lump_tells None = Tells-none
lump_tells (Some name) = Tells-string (codes "lump") (shown_name name) refl

engine_tells : (engine : Engine) → Tells (engine_member engine) (engine_values engine)
engine_tells Doom = Tells-none
engine_tells Early = Tells-string (codes "engine") (engine_name Early) refl
engine_tells Boom = Tells-string (codes "engine") (engine_name Boom) refl
engine_tells Mbf = Tells-string (codes "engine") (engine_name Mbf) refl
engine_tells PrBoom = Tells-string (codes "engine") (engine_name PrBoom) refl
engine_tells Mbf21 = Tells-string (codes "engine") (engine_name Mbf21) refl

abbrev AreSmall : List (List ℕ × ℕ) → Type 0
AreSmall numbers = All (λ one. one.1 < 2 ^ 64) numbers

wrapper_tells : (wrapper : Option Wrapper) → AreSmall (wrapper_numbers wrapper) → Tells (wrapper_members wrapper) (wrapper_values wrapper)
wrapper_tells None small = Tells-none
wrapper_tells (Some (Dsda dsda)) small =
    Tells-both _ _ (text_at (codes "wrapper") (codes "DSDA") ∷ []) _ (Tells-string (codes "wrapper") (codes "DSDA") refl)
    (Tells-number (codes "wrapper_version") dsda.version refl (small 0 (codes "", 0) (omega arith)))
wrapper_tells (Some (PrUm name)) small =
    Tells-both _ _ (text_at (codes "wrapper") (codes "PR+UM") ∷ []) _ (Tells-string (codes "wrapper") (codes "PR+UM") refl)
    (Tells-both _ _ (number_at (codes "wrapper_version") 1 ∷ []) _ (Tells-number (codes "wrapper_version") 1 refl (lit< tt))
    (Tells-string (codes "map_name") (shown_name (name_of name)) refl))

footer_tells : (name : List ℕ) (text : Option (List ℕ)) → IsPlain name → Tells (footer_member name text) (footer_values name text)
footer_tells name None plain = Tells-none
footer_tells name (Some text) plain = Tells-string name (take 4096 text) plain

-- what is small of numbers one after another is small of each of them
first_small : (xs ys : List (List ℕ × ℕ)) → AreSmall (xs ++ ys) → AreSmall xs
first_small xs ys small k d below =
    let P : List ℕ × ℕ → Type 0 = λ one. one.1 < 2 ^ 64 in
    subst P (get_or_append_left xs ys d k below) (small k d (omega (arith, below, length-append xs ys)))

last_small : (xs ys : List (List ℕ × ℕ)) → AreSmall (xs ++ ys) → AreSmall ys
last_small xs ys small k d below =
    let P : List ℕ × ℕ → Type 0 = λ one. one.1 < 2 ^ 64 in
    subst P (get_or-append-add xs ys k d) (small (length xs + k) d (omega (arith, below, length-append xs ys)))

-- a few numbers
three : (a b c : List ℕ) → a ++ (b ++ (c ++ [])) ≡ a ++ (b ++ c)
three a b c = simp append-nil refl

four : (a b c d : List ℕ) → a ++ (b ++ (c ++ (d ++ []))) ≡ a ++ (b ++ (c ++ d))
four a b c d = simp append-nil refl

five : (a b c d e : List ℕ) → a ++ (b ++ (c ++ (d ++ (e ++ [])))) ≡ (a ++ b) ++ (c ++ (d ++ e))
five a b c d e = simp (append_assoc, append-nil) refl

level_tells : (demo : Demo) → AreSmall (level_numbers demo) → Tells (level_members (game demo)) (numbers_at (level_numbers demo))
level_tells demo small =
    subst (λ (t : List ℕ). Tells t (numbers_at (level_numbers demo)))
    (three (number_member (codes "skill") (game demo).skill) (number_member (codes "episode") (game demo).episode) (number_member (codes "map") (game demo).map))
    (Tells-each (level_numbers demo) (refl, (refl, (refl, tt))) small)

length_tells : (demo : Demo) → AreSmall (length_numbers demo)
    → Tells (length_members (players_in (game demo).players) (full_tics demo) (odd_commands demo) (length demo.rest)) (numbers_at (length_numbers demo))
length_tells demo small =
    subst (λ (t : List ℕ). Tells t (numbers_at (length_numbers demo)))
    (four (number_member (codes "players") (players_in (game demo).players)) (number_member (codes "tics") (full_tics demo))
    (number_member (codes "odd") (odd_commands demo)) (number_member (codes "after") (length demo.rest)))
    (Tells-each (length_numbers demo) (refl, (refl, (refl, (refl, tt)))) small)

frame_tells : (frame : Option (List ℕ)) → AreSmall (frame_number frame) → Tells (frame_member frame) (numbers_at (frame_number frame))
frame_tells None small = Tells-none
frame_tells (Some frame) small = Tells-number (codes "key_frame") (length frame) refl (small 0 (codes "", 0) (omega arith))

rules_tell : (there : Bool) (header : Header) → AreSmall (rule_numbers header)
    → Tells (cond there (rule_members header) []) (cond there (numbers_at (rule_numbers header)) [])
rules_tell false header small = Tells-none
rules_tell true header small =
    subst (λ (t : List ℕ). Tells t (numbers_at (rule_numbers header)))
    (five (number_member (codes "deathmatch") header.deathmatch) (number_member (codes "respawn") header.respawn) (number_member (codes "fast") header.fast)
    (number_member (codes "nomonsters") header.no_monsters) (number_member (codes "viewpoint") header.viewpoint))
    (Tells-each (rule_numbers header) (refl, (refl, (refl, (refl, (refl, tt))))) small)

-- the parts of the text as one before its end
grouped : (a b c d e f g h end : List ℕ)
    → a ++ (b ++ (c ++ (d ++ (e ++ (f ++ (g ++ (h ++ end))))))) ≡ (a ++ (b ++ (c ++ (d ++ (e ++ (f ++ (g ++ h))))))) ++ end
grouped a b c d e f g h end = simp append_assoc refl

pub law_object_is_read : ObjectIsRead
law_object_is_read path lump demo footer small =
    let wrapper = wrapper_numbers demo.wrapper in
    let level = level_numbers demo in
    let lengths = length_numbers demo in
    let frame = frame_number demo.key_frame in
    let rules = rule_numbers (game demo) in
    let behind_version = last_small (version_number demo) (wrapper ++ (level ++ (lengths ++ (frame ++ rules)))) small in
    let behind_wrapper = last_small wrapper (level ++ (lengths ++ (frame ++ rules))) behind_version in
    let behind_level = last_small level (lengths ++ (frame ++ rules)) behind_wrapper in
    let behind_lengths = last_small lengths (frame ++ rules) behind_level in
    subst (IsLineOf (demo_value path lump demo footer))
    (sym
    (ap (λ t. file_member path ++ t)
    (grouped (lump_member lump) (version_members demo) (level_members (game demo)) (length_members (players_in (game demo).players) (full_tics demo) (odd_commands demo) (length demo.rest))
    (frame_member demo.key_frame) (rules_or_none demo) (footer_member (codes "port") footer.port) (footer_member (codes "words") footer.words) (codes "}\n"))))
    (read_line path _ _
    (Tells-both _ _ _ _ (lump_tells lump)
    (Tells-both _ _ _ _
    (Tells-both _ _ (numbers_at (version_number demo)) _
    (Tells-number (codes "version") (game demo).version refl (first_small (version_number demo) (wrapper ++ (level ++ (lengths ++ (frame ++ rules)))) small 0 (codes "", 0) (omega arith)))
    (Tells-both _ _ _ _ (engine_tells demo.layout.engine)
    (wrapper_tells demo.wrapper (first_small wrapper (level ++ (lengths ++ (frame ++ rules))) behind_version))))
    (Tells-both _ _ _ _ (level_tells demo (first_small level (lengths ++ (frame ++ rules)) behind_wrapper))
    (Tells-both _ _ _ _ (length_tells demo (first_small lengths (frame ++ rules) behind_level))
    (Tells-both _ _ _ _ (frame_tells demo.key_frame (first_small frame rules behind_lengths))
    (Tells-both _ _ _ _ (rules_tell (has_rules demo) (game demo) (last_small frame rules behind_lengths))
    (Tells-both _ _ _ _ (footer_tells (codes "port") footer.port refl) (footer_tells (codes "words") footer.words refl)))))))))

grouped_why : (lump label why end : List ℕ) → lump ++ (label ++ (why ++ end)) ≡ (lump ++ (label ++ why)) ++ end
grouped_why lump label why end = simp append_assoc refl

pub law_refused_is_read : RefusedIsRead
law_refused_is_read path lump why =
    subst (IsLineOf (refused_value path lump why))
    (sym (ap (λ t. file_member path ++ t) (grouped_why (lump_member lump) (codes ",\"refused\":") (json_string why) (codes "}\n"))))
    (read_line path _ _ (Tells-both _ _ _ _ (lump_tells lump) (Tells-string (codes "refused") why refl)))
