-- How the files on which all stand are read one after another.
use Rattle.std.proofs.Common.{◌≡◌, ℕ, ◌+◌, ◌-◌, ◌<◌, inl, inr, List, [], ◌∷◌, ◌++◌, length, get_or, map, refl, sym, ap, ◌∙◌, subst, arith}
use Rattle.std.specs.Prelude.{All, slice_index_or}
use Rattle.std.proofs.lemmas.Bool.{cases_lt}
use Rattle.std.proofs.lemmas.List.{get_or-append_right, get_or-map, get_or_append_left, length-append, length-map, map-append}
use Rattle.std.proofs.lemmas.List.Elements.{All-push}
use Rattle.wad_dir.specs.Wad.{IsRead, Wad}
use Rattle.lens_reports.specs.Bases.{AddsHeld, AddsWad, AreBases, AreHeld, HasWad, EndsAtBase, IsBase, IsRefusedAt, RefusesBase, path_at}
use Rattle.lens_reports.specs.Files.{Known}
use Rattle.le_rec.specs.Sink.{SinkState}
use Rattle.lens_reports.specs.declared.bases.BaseFault.{BaseFault}
use Rattle.lens_reports.specs.declared.end.End.{End}
use Rattle.lens_reports.specs.declared.files.ReadFault.{ReadFault}

-- a path of a slice
path_of : {X : Type 0} (text : X → List ℕ) (paths : List X) (i : ℕ) (d : X) → i < length paths → text (get_or paths i d) ≡ path_at (map text paths) i
path_of text paths i d below = sym (get_or-map text paths i d [] below)

-- the first of them were read
pub record AreHeldTo (known : ℕ → List ℕ → Known) (paths : List (List ℕ)) (n : ℕ) (all : List (List ℕ)) : Type 0 where
  pub as_many : length all ≡ n
  pub each : (i : ℕ) → i < n → IsBase (known i (path_at paths i)) (slice_index_or all i [])

pub held_none : (known : ℕ → List ℕ → Known) (paths : List (List ℕ)) → AreHeldTo known paths 0 []
held_none known paths = record { as_many = refl; each = λ i below. absurd (omega (arith, below)) }

-- and one more
held_more : (known : ℕ → List ℕ → Known) (paths : List (List ℕ)) (n : ℕ) (path : List ℕ) (old new : List (List ℕ)) → path ≡ path_at paths n
    → AreHeldTo known paths n old → AddsHeld (known n path) old new → AreHeldTo known paths (n + 1) new
held_more known paths n path old new at before adds = record {
  as_many = ap length adds.is ∙ length-append old (adds.bytes ∷ []) ∙ ap (λ k. k + 1) before.as_many;
  each = λ i below. elim (cases_lt i n) [
    | inl inside ↦
        let same : slice_index_or new i [] ≡ slice_index_or old i [] =
        ap (λ all. get_or all i []) adds.is ∙ get_or_append_left old (adds.bytes ∷ []) [] i (omega (arith, inside, before.as_many)) in
        subst (IsBase (known i (path_at paths i))) (sym same) (before.each i inside)
    | inr past ↦
        let last : i ≡ n = omega (arith, past, below) in
        let first : i - n ≡ 0 = omega (arith, last) in
        let same : slice_index_or new i [] ≡ adds.bytes =
        ap (λ all. get_or all i []) adds.is ∙ get_or-append_right old (adds.bytes ∷ []) n i [] before.as_many past
        ∙ ap (λ k. get_or (adds.bytes ∷ []) k []) first in
        subst (IsBase (known i (path_at paths i))) (sym same)
        (subst (λ k. IsBase (known k (path_at paths k)) adds.bytes) (sym last) (subst (λ p. IsBase (known n p) adds.bytes) at adds.are))
  ];
}

-- the same of a slice of paths
pub held_next : {X : Type 0} (text : X → List ℕ) (paths : List X) (n : ℕ) (d : X) → n < length paths → (known : ℕ → List ℕ → Known) (old new : List (List ℕ))
    → AreHeldTo known (map text paths) n old → AddsHeld (known n (text (get_or paths n d))) old new → AreHeldTo known (map text paths) (n + 1) new
held_next text paths n d within known old new = held_more known (map text paths) n (text (get_or paths n d)) old new (path_of text paths n d within)

-- all were read
pub held_all : (known : ℕ → List ℕ → Known) (paths : List (List ℕ)) (n : ℕ) (all : List (List ℕ)) → n ≡ length paths → AreHeldTo known paths n all → AreHeld known paths all
held_all known paths n all last held = record { as_many = held.as_many ∙ last; each = λ i below. held.each i (omega (arith, below, last)) }

-- the next isn't taken
refused_at : (known : ℕ → List ℕ → Known) (paths : List (List ℕ)) (n : ℕ) (path : List ℕ) (all : List (List ℕ)) (fault : ReadFault) → n < length paths → path ≡ path_at paths n
    → AreHeldTo known paths n all → RefusesBase (known n path) fault → IsRefusedAt known paths (record { place = n; fault = fault })
refused_at known paths n path all fault within at held why = record {
  within = within;
  why = subst (λ p. RefusesBase (known n p) fault) at why;
  before = λ i below. (slice_index_or all i [], held.each i below);
}

pub refused_next : {X : Type 0} (text : X → List ℕ) (paths : List X) (n : ℕ) (d : X) → n < length paths → (known : ℕ → List ℕ → Known) (all : List (List ℕ)) (fault : ReadFault)
    → AreHeldTo known (map text paths) n all → RefusesBase (known n (text (get_or paths n d))) fault → IsRefusedAt known (map text paths) (record { place = n; fault = fault })
refused_next text paths n d within known all fault =
    refused_at known (map text paths) n (text (get_or paths n d)) all fault (omega (arith, within, length-map paths text)) (path_of text paths n d within)

-- the directories of the first of some bytes
pub record AreWadsTo (all : List (List ℕ)) (wads : List Wad) : Type 0 where
  pub are : map (λ (wad : Wad). wad.bytes) wads ≡ all
  pub read : All IsRead wads

pub wads_more : (all more : List (List ℕ)) (bytes : List ℕ) (old new : List Wad) → more ≡ all ++ bytes ∷ [] → AreWadsTo all old → AddsWad bytes old new → AreWadsTo more new
wads_more all more bytes old new next before adds = record {
  are = ap (map (λ (wad : Wad). wad.bytes)) adds.is ∙ map-append (λ (wad : Wad). wad.bytes) old (adds.wad ∷ [])
      ∙ ap (λ xs. xs ++ adds.wad.bytes ∷ []) before.are ∙ ap (λ b. all ++ b ∷ []) adds.of_bytes ∙ sym next;
  read = subst (All IsRead) (sym adds.is) (All-push IsRead old adds.wad before.read adds.read);
}

-- each of them has a directory
pub have_wads : {X : Type 0} (text : X → List ℕ) (known : ℕ → List ℕ → Known) (paths : List (List ℕ)) (xs : List X) → AreHeld known paths (map text xs)
    → All (λ x. HasWad (text x)) xs
have_wads text known paths xs held i d within =
    subst HasWad (get_or-map text xs i d [] within) (held.each i (omega (arith, within, held.as_many, length-map xs text))).1

-- the files on which all stand are those whose bytes were read
are_bases : (known : ℕ → List ℕ → Known) (paths all : List (List ℕ)) (wads : List Wad) → map (λ (wad : Wad). wad.bytes) wads ≡ all → All IsRead wads
    → AreHeld known paths all → AreBases known paths wads
are_bases known paths all wads are read held = record { held = subst (AreHeld known paths) (sym are) held; read = read }

-- and as many
pub as_many_wads : (known : ℕ → List ℕ → Known) (paths all : List (List ℕ)) (wads : List Wad) → map (λ (wad : Wad). wad.bytes) wads ≡ all → AreHeld known paths all
    → length wads ≡ length paths
as_many_wads known paths all wads are held = sym (length-map wads (λ (wad : Wad). wad.bytes)) ∙ ap length are ∙ held.as_many

-- the paths are those of a job
pub job_bases : (known : ℕ → List ℕ → Known) (bases paths all : List (List ℕ)) (wads : List Wad) → paths ≡ bases → map (λ (wad : Wad). wad.bytes) wads ≡ all → All IsRead wads
    → AreHeld known paths all → AreBases known bases wads
job_bases known bases paths all wads same are read held = subst (λ ps. AreBases known ps wads) same (are_bases known paths all wads are read held)

pub job_refused : (known : ℕ → List ℕ → Known) (bases paths : List (List ℕ)) (first : BaseFault) → paths ≡ bases → IsRefusedAt known paths first → IsRefusedAt known bases first
job_refused known bases paths first same refused = subst (λ ps. IsRefusedAt known ps first) same refused

pub job_told : (bases paths : List (List ℕ)) (first : BaseFault) (errors errors' : SinkState) (why : End) → paths ≡ bases
    → EndsAtBase (path_at paths first.place) first.fault errors errors' why → EndsAtBase (path_at bases first.place) first.fault errors errors' why
job_told bases paths first errors errors' why same told = subst (λ ps. EndsAtBase (path_at ps first.place) first.fault errors errors' why) same told
