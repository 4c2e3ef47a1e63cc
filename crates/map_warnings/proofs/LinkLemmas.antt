-- Links from numbers to the next ones of their keys.
use Rattle.std.proofs.Common.{◌≡◌, ◌≢◌, ℕ, ◌+◌, ◌<◌, inl, inr, List, ◌∷◌, length, get_or, set, drop, refl, sym, subst, ◌∙◌, arith}
use Rattle.std.specs.Prelude.{All}
use Rattle.std.proofs.lemmas.Bool.{cases_eq, eq-eqb, ne_eqb}
use Rattle.std.proofs.lemmas.List.{drop_more, get_or-set_same, get_or-set_other, get_or_default, length-set}
use Rattle.std.proofs.lemmas.List.Elements.{All-cons}
use Rattle.map_warnings.specs.KeyLinks.{AreLinks, IsLink, of_key}

-- a number of a key is the first of it from its place on
pub key_here : (key : ℕ → ℕ) (numbers : List ℕ) (k i : ℕ) → i < length numbers → key (get_or numbers i 0) ≡ k
    → of_key key k (drop i numbers) ≡ get_or numbers i 0 ∷ of_key key k (drop (i + 1) numbers)
key_here key numbers k i inside is = rw (drop_more numbers i 0 inside, eq-eqb (key (get_or numbers i 0)) k is) refl

-- one of another key is left out
key_past : (key : ℕ → ℕ) (numbers : List ℕ) (k i : ℕ) → i < length numbers → key (get_or numbers i 0) ≢ k
    → of_key key k (drop (i + 1) numbers) ≡ of_key key k (drop i numbers)
key_past key numbers k i inside other = rw (drop_more numbers i 0 inside, ne_eqb (key (get_or numbers i 0)) k other) refl

-- behind the last number there is none of any key
pub links_none : (key : ℕ → ℕ) (numbers : List ℕ) (keys : ℕ) (firsts next : List ℕ) → length firsts ≡ keys → length next ≡ length numbers
    → ((k : ℕ) → k < keys → get_or firsts k 0 ≡ length numbers) → AreLinks key numbers keys (length numbers) firsts next
links_none key numbers keys firsts next all long none = record {
  all = all;
  long = long;
  first = λ k below. rw (none k below) (record {
    after = omega arith;
    within = omega arith;
    here = λ inside. absurd (omega (arith, inside));
    same = refl;
  });
  behind = λ i from below. absurd (omega (arith, from, below));
}

-- a number more
pub links_more : (key : ℕ → ℕ) (numbers : List ℕ) (keys i k : ℕ) (firsts next : List ℕ) → i < length numbers → k < keys → key (get_or numbers i 0) ≡ k
    → AreLinks key numbers keys (i + 1) firsts next → AreLinks key numbers keys i (set firsts k i) (set next i (get_or firsts k 0))
links_more key numbers keys i k firsts next inside few is are = record {
  all = length-set firsts k i ∙ are.all;
  long = length-set next i (get_or firsts k 0) ∙ are.long;
  first = λ m below. elim (cases_eq m k) [
    | inl same ↦
        rw (same, get_or-set_same firsts k i 0 (omega (arith, few, are.all))) (record {
          after = omega arith;
          within = omega (arith, inside);
          here = λ _. is;
          same = refl;
        })
    | inr other ↦
        let link = are.first m below in
        rw (get_or-set_other firsts k m i 0 other) (record {
          after = omega (arith, link.after);
          within = link.within;
          here = link.here;
          same = link.same ∙ key_past key numbers m i inside (λ e. other (sym e ∙ is));
        })
  ];
  behind = λ j from below. elim (cases_eq j i) [
    | inl same ↦
        rw (same, get_or-set_same next i (get_or firsts k 0) 0 (omega (arith, inside, are.long)), is) (are.first k few)
    | inr other ↦
        rw (get_or-set_other next i j (get_or firsts k 0) 0 other) (are.behind j (omega (arith, from, other)) below)
  ];
}

-- what stands at a number's place links it to the next one of its key
pub link_behind : (key : ℕ → ℕ) (numbers : List ℕ) (keys : ℕ) (firsts next : List ℕ) (at to : ℕ) → AreLinks key numbers keys 0 firsts next
    → at < length numbers → to ≡ get_or next at to → IsLink key numbers (key (get_or numbers at 0)) (at + 1) to
link_behind key numbers keys firsts next at to are inside is =
    let there : to ≡ get_or next at 0 = is ∙ get_or_default next at _ 0 (omega (arith, inside, are.long)) in
    rw there (are.behind at (omega arith) inside)

-- what holds of some numbers of a key if it holds of those that are left of them
pub rest_more : (key : ℕ → ℕ) (P : ℕ → Type 0) (numbers all : List ℕ) (k at next : ℕ) → at < length numbers → key (get_or numbers at 0) ≡ k
    → IsLink key numbers (key (get_or numbers at 0)) (at + 1) next → P (get_or numbers at 0)
    → (All P (of_key key k (drop at numbers)) → All P all) → All P (of_key key k (drop next numbers)) → All P all
rest_more key P numbers all k at next inside is link here before left =
    let rest : of_key key k (drop next numbers) ≡ of_key key k (drop (at + 1) numbers) = rw is at link.same in
    let own = All-cons P (get_or numbers at 0) (of_key key k (drop (at + 1) numbers)) here (subst (All P) rest left) in
    before (subst (All P) (sym (key_here key numbers k at inside is)) own)
