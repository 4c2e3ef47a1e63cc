-- A wrapper is what bytes begin with, whatever follows it.
use Rattle.std.proofs.Common.{◌≡◌, ◌≢◌, ℕ, ◌≤◌, ◌<◌, true, false, cond, not, nat_eq, Option, Some, None, List, [], ◌∷◌, ◌++◌, length, take, drop, slice_index, refl, sym, ap, ◌∙◌, inl, inr, arith, length-append, length-drop, subst, eqb, ltb, ◌==◌, ◌&&◌}
use Rattle.std.specs.List.{starts_with}
use Rattle.std.proofs.lemmas.Bool.{and_left, and_right, cases_Bool, cond-false, cond-true, eq-eqb, eqb-true, le-ltb, ltb-false, ne_eqb, not-false, not_from_true}
use Rattle.std.proofs.lemmas.Bool.Decides.{Decides-eqb, nat_tests}
use Rattle.std.proofs.lemmas.List.{drop-take, get_or-take, length-take-le, take-append-drop, take-append-le, take-take, take_all}
use Rattle.std.proofs.lemmas.Slice.Eq.{slice_eq-Decides}
use Rattle.later_demos.specs.Demo.{IsDsda, IsPrUm, IsWrapper}
use Rattle.later_demos.specs.Numbers.{big32_at}
use Rattle.later_demos.specs.Wrapper.{dsda_of, dsda_refusal, dsda_signature, dsda_size, is_dsda, is_pr_um, pr_um_extension, pr_um_refusal, pr_um_signature, size_of, wrapper_of, wrapper_refusal, wrapper_size}
use Rattle.later_demos.specs.declared.wrapper.DsdaWrapper.{DsdaWrapper}
use Rattle.later_demos.specs.declared.wrapper.Wrapper.{Wrapper}
use Rattle.later_demos.specs.declared.wrapper.Wrapper.TheVariants.{Dsda, PrUm}
use Rattle.later_demos.proofs.FrontLemmas.{big32_left, chosen_same, left_index, part_left, passed}

-- what starts with bytes begins with these, and the other way round
pub starts_take : (bytes wanted : List ℕ) → starts_with nat_eq bytes wanted ≡ true
    → take (length wanted) bytes ≡ wanted
starts_take bytes wanted h =
    sym ((slice_eq-Decides Decides-eqb wanted (take (length wanted) bytes) _ refl).0 h)

pub take_starts : (bytes wanted : List ℕ) → take (length wanted) bytes ≡ wanted
    → starts_with nat_eq bytes wanted ≡ true
take_starts bytes wanted h =
    (slice_eq-Decides Decides-eqb wanted (take (length wanted) bytes) _ refl).1 (sym h)

-- a first byte that isn't 255 begins no wrapper
not_dsda : (b : ℕ) (rest : List ℕ) → b ≢ 255 → is_dsda (b ∷ rest) ≡ false
not_dsda b rest other = and_left _ _ (ne_eqb 255 b (λ e. other (sym e)))

not_pr_um : (b : ℕ) (rest : List ℕ) → b ≢ 255 → is_pr_um (b ∷ rest) ≡ false
not_pr_um b rest other = and_left _ _ (ne_eqb 255 b (λ e. other (sym e)))

pub none_wraps : (b : ℕ) (rest : List ℕ) → b ≢ 255 → wrapper_of (b ∷ rest) ≡ None
unfolding wrapper_of
none_wraps b rest other =
    cond-false _ _ _ (not_dsda b rest other) ∙ cond-false _ _ _ (not_pr_um b rest other)

pub none_refused : (b : ℕ) (rest : List ℕ) → b ≢ 255 → wrapper_refusal (b ∷ rest) ≡ None
unfolding wrapper_refusal
none_refused b rest other =
    cond-false _ _ _ (not_dsda b rest other) ∙ cond-false _ _ _ (not_pr_um b rest other)
    ∙ cond-false _ _ _ (ne_eqb b 255 other)

-- DSDA's wrapper
dsda_room : (bytes : List ℕ) → (16 ≤ dsda_size bytes) × (slice_index bytes 7 ≡ 2 → dsda_size bytes ≡ 17)
dsda_room bytes = (grind (arith, nat_tests), λ two. cond-true _ _ _ (eq-eqb _ _ two))

module _ (front more : List ℕ) (long : dsda_size front ≤ length front) where
  dsda_version : slice_index (front ++ more) 7 ≡ slice_index front 7
  dsda_version = left_index front more 7 (omega (arith, long, (dsda_room front).0))

  pub dsda_size_same : dsda_size (front ++ more) ≡ dsda_size front
  dsda_size_same = ap (λ v. cond (eqb v 2) 17 16) dsda_version

  pub dsda_same : dsda_of (front ++ more) ≡ dsda_of front
  dsda_same =
      let marker : big32_at (front ++ more) 8 ≡ big32_at front 8 =
      big32_left front more 8 (omega (arith, long, (dsda_room front).0)) in
      let tics : big32_at (front ++ more) 12 ≡ big32_at front 12 =
      big32_left front more 12 (omega (arith, long, (dsda_room front).0)) in
      let flags =
      chosen_same (slice_index front 7 == 2) (slice_index (front ++ more) 16) (slice_index front 16) 0 0
      (λ e. left_index front more 16 (omega (arith, long, (dsda_room front).1 (eqb-true _ _ e)))) (λ _. refl) in
      rw (dsda_version, marker, tics, flags) refl

-- a version of 1 or 2, and as many bytes, are allowed
dsda_allowed : (bytes : List ℕ) → 1 ≤ slice_index bytes 7 → slice_index bytes 7 ≤ 2
    → dsda_size bytes ≤ length bytes → dsda_refusal bytes ≡ None
unfolding dsda_refusal
dsda_allowed bytes low high fits = grind (arith, nat_tests)

dsda_wraps : (front more : List ℕ) (dsda : DsdaWrapper) → IsDsda front dsda
    → (wrapper_of (front ++ more) ≡ Some (Dsda dsda)) × (wrapper_refusal (front ++ more) ≡ None)
unfolding wrapper_of wrapper_refusal
dsda_wraps front more dsda is =
    let fits : dsda_size front ≤ length front = omega (arith, is.long) in
    let least = (dsda_room front).0 in
    let begins : is_dsda (front ++ more) ≡ true =
    take_starts (front ++ more) dsda_signature
    (take-append-le 7 front more (omega (arith, fits, (dsda_room front).0)) ∙ is.signature) in
    let low : 1 ≤ slice_index (front ++ more) 7 = rw (dsda_version front more fits) is.version.0 in
    let high : slice_index (front ++ more) 7 ≤ 2 = rw (dsda_version front more fits) is.version.1 in
    let room : dsda_size (front ++ more) ≤ length (front ++ more) =
    omega (arith, fits, dsda_size_same front more fits, length-append front more) in (
      cond-true _ _ _ begins ∙ ap (λ d. Some (Dsda d)) (dsda_same front more fits ∙ is.reads),
      cond-true _ _ _ begins ∙ dsda_allowed (front ++ more) low high room,
    )

-- PR+UM's is no DSDA's
not_both : (bytes : List ℕ) → take 6 bytes ≡ pr_um_signature → is_dsda bytes ≡ false
not_both [] h = absurd (omega (arith, ap length h))
not_both (a ∷ []) h = absurd (omega (arith, ap length h))
not_both (a ∷ b ∷ rest) h =
    let second : b ≡ 80 = ap (λ bytes. slice_index bytes 1) h in
    and_right _ _ (and_left _ _ (ne_eqb 29 b (λ e. omega (arith, e, second))))

-- as many bytes as are wanted begin with themselves
pub self_starts : (bytes : List ℕ) → starts_with nat_eq bytes bytes ≡ true
self_starts bytes = take_starts bytes bytes (take_all (length bytes) bytes (omega arith))

-- bytes that are as long as those that start with them are the same
pub whole_start : (bytes wanted : List ℕ) → length bytes ≡ length wanted
    → starts_with nat_eq wanted bytes ≡ true → bytes ≡ wanted
whole_start bytes wanted long starts =
    sym (starts_take wanted bytes starts) ∙ take_all (length bytes) wanted (omega (arith, long))

pr_um_allowed : (bytes : List ℕ) → take 12 (drop 7 bytes) ≡ pr_um_extension → 27 ≤ length bytes
    → pr_um_refusal bytes ≡ None
unfolding pr_um_refusal
pr_um_allowed bytes extension fits =
    cond-false _ _ _ (not_from_true _ (ap (starts_with nat_eq pr_um_extension) extension ∙ self_starts pr_um_extension))
    ∙ cond-false _ _ _ (le-ltb _ _ fits)

pr_um_wraps : (front more name : List ℕ) → IsPrUm front name
    → (wrapper_of (front ++ more) ≡ Some (PrUm name)) × (wrapper_refusal (front ++ more) ≡ None)
unfolding wrapper_of wrapper_refusal
pr_um_wraps front more name is =
    let six : take 6 (front ++ more) ≡ pr_um_signature =
    take-append-le 6 front more (omega (arith, is.long)) ∙ is.signature in
    let other = not_both (front ++ more) six in
    let begins : is_pr_um (front ++ more) ≡ true = take_starts (front ++ more) pr_um_signature six in
    let extension : take 12 (drop 7 (front ++ more)) ≡ pr_um_extension =
    part_left front more 7 12 (omega (arith, is.long)) ∙ is.extension in
    let long : length (drop 19 front) ≡ 8 = omega (arith, length-drop 19 front, is.long) in
    let map : take 8 (drop 19 (front ++ more)) ≡ name =
    part_left front more 19 8 (omega (arith, is.long)) ∙ take_all 8 (drop 19 front) (omega (arith, long)) ∙ is.reads in
    let room : 27 ≤ length (front ++ more) = omega (arith, is.long, length-append front more) in (
      cond-false _ _ _ other ∙ cond-true _ _ _ begins ∙ ap (λ n. Some (PrUm n)) map,
      cond-false _ _ _ other ∙ cond-true _ _ _ begins ∙ pr_um_allowed (front ++ more) extension room,
    )

-- what bytes that begin with a wrapper say of it, where no other wrapper follows
pub wraps : (front more : List ℕ) (wrapper : Option Wrapper) → IsWrapper front wrapper
    → 0 < length more → slice_index more 0 ≢ 255
    → (wrapper_of (front ++ more) ≡ wrapper) × (wrapper_refusal (front ++ more) ≡ None)
    × (length front ≡ size_of wrapper)
wraps front [] None is some other = absurd (omega arith)
wraps front (b ∷ more) None is some other =
    let whole : front ++ (b ∷ more) ≡ b ∷ more = ap (λ f. f ++ (b ∷ more)) is in (
      ap wrapper_of whole ∙ none_wraps b more other,
      ap wrapper_refusal whole ∙ none_refused b more other,
      ap length is,
    )
wraps front more (Some (Dsda dsda)) is some other =
    let both = dsda_wraps front more dsda is in
    (both.0, both.1, is.long ∙ ap (λ (d : DsdaWrapper). cond (d.version == 2) 17 16) is.reads)
wraps front more (Some (PrUm name)) is some other =
    let both = pr_um_wraps front more name is in (both.0, both.1, is.long)

-- bytes that aren't refused for a wrapper begin with the one that they say
version_passed : (long version : ℕ) → 7 < long
    → (ltb 7 long && (not (eqb version 1) && not (eqb version 2))) ≡ false
    → (1 ≤ version) × (version ≤ 2)
version_passed long version there h = (grind (arith, nat_tests), grind (arith, nat_tests))

dsda_passed : (bytes : List ℕ) → dsda_refusal bytes ≡ None
    → (1 ≤ slice_index bytes 7) × (slice_index bytes 7 ≤ 2) × (dsda_size bytes ≤ length bytes)
unfolding dsda_refusal
dsda_passed bytes h =
    let first = passed _ _ _ h in
    let second = passed _ _ _ first.1 in
    let fits : dsda_size bytes ≤ length bytes = ltb-false (length bytes) (dsda_size bytes) second.0 in
    let long : 7 < length bytes = omega (arith, fits, (dsda_room bytes).0) in
    let version = version_passed (length bytes) (slice_index bytes 7) long first.0 in
    (version.0, version.1, fits)

dsda_unwraps : (bytes : List ℕ) → is_dsda bytes ≡ true → dsda_refusal bytes ≡ None
    → IsDsda (take (dsda_size bytes) bytes) (dsda_of bytes) × (dsda_size bytes ≤ length bytes)
dsda_unwraps bytes begins h =
    let size = dsda_size bytes in
    let p = dsda_passed bytes h in
    let least = (dsda_room bytes).0 in
    let split : take size bytes ++ drop size bytes ≡ bytes = take-append-drop size bytes in
    let version : slice_index (take size bytes) 7 ≡ slice_index bytes 7 =
    get_or-take size bytes 7 0 (omega (arith, least)) in
    let long : length (take size bytes) ≡ size = length-take-le size bytes p.2 in
    let same : dsda_size (take size bytes) ≡ size = ap (λ v. cond (eqb v 2) 17 16) version in
    let fits : dsda_size (take size bytes) ≤ length (take size bytes) = omega (arith, same, long) in (
      record {
        signature =
            take-take 7 size bytes (omega (arith, least)) ∙ starts_take bytes dsda_signature begins;
        version = (omega (arith, version, p.0), omega (arith, version, p.1));
        long = long ∙ sym same;
        reads = sym (dsda_same (take size bytes) (drop size bytes) fits) ∙ ap dsda_of split;
      },
      p.2,
    )

pr_um_unwraps : (bytes : List ℕ) → is_pr_um bytes ≡ true → pr_um_refusal bytes ≡ None
    → IsPrUm (take 27 bytes) (take 8 (drop 19 bytes)) × (27 ≤ length bytes)
unfolding pr_um_refusal
pr_um_unwraps bytes begins h =
    let first = passed _ _ _ h in
    let second = passed _ _ _ first.1 in
    let fits : 27 ≤ length bytes = ltb-false (length bytes) 27 second.0 in
    let twelve : length (take 12 (drop 7 bytes)) ≡ 12 =
    length-take-le 12 (drop 7 bytes) (omega (arith, length-drop 7 bytes)) in
    let extension : take 12 (drop 7 bytes) ≡ pr_um_extension =
    whole_start (take 12 (drop 7 bytes)) pr_um_extension twelve (not-false _ first.0) in (
      record {
        signature = take-take 6 27 bytes (omega arith) ∙ starts_take bytes pr_um_signature begins;
        extension =
            ap (take 12) (drop-take 7 20 bytes) ∙ take-take 12 20 (drop 7 bytes) (omega arith) ∙ extension;
        long = length-take-le 27 bytes fits;
        reads = drop-take 19 8 bytes;
      },
      fits,
    )

pub unwraps : (bytes : List ℕ) → wrapper_refusal bytes ≡ None
    → IsWrapper (take (wrapper_size bytes) bytes) (wrapper_of bytes) × (wrapper_size bytes ≤ length bytes)
unfolding wrapper_of wrapper_refusal
unwraps bytes h =
    let P : Option Wrapper → Type 0 = λ w. IsWrapper (take (size_of w) bytes) w × (size_of w ≤ length bytes) in
    elim (cases_Bool (is_dsda bytes)) [
      | inl dsda ↦
          let found = dsda_unwraps bytes dsda (sym (cond-true _ _ _ dsda) ∙ h) in
          subst P (sym (cond-true _ _ _ dsda)) found
      | inr other ↦ elim (cases_Bool (is_pr_um bytes)) [
        | inl pr_um ↦
            let found =
            pr_um_unwraps bytes pr_um (sym (cond-true _ _ _ pr_um) ∙ sym (cond-false _ _ _ other) ∙ h) in
            subst P (sym (cond-false _ _ _ other ∙ cond-true _ _ _ pr_um)) found
        | inr none ↦
            subst P (sym (cond-false _ _ _ other ∙ cond-false _ _ _ none)) (refl, omega arith)
      ]
    ]
