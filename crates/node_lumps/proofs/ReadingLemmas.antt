-- The lumps of a level hold one reading of its nodes, or these are broken for one reason, and not both.
use Rattle.std.proofs.Common.{◌≡◌, ◌≢◌, ℕ, ◌-◌, ◌*◌, ◌/◌, ◌<◌, ◌≤◌, ◌↔◌, ◌⊎◌, inl, inr, List, [], ◌∷◌, length, drop, Result, Ok, Err, refl, sym, ap, ◌∙◌, subst, arith}
use Rattle.std.proofs.lemmas.Bool.{cases_eq, cases_lt}
use Rattle.node_lumps.specs.Format.{lump_of, seg_size}
use Rattle.node_lumps.specs.Laws.{NeverBoth, OneReading, OneReason, ReadOrBroken}
use Rattle.node_lumps.specs.Later.{Later, later_of}
use Rattle.node_lumps.specs.Parts.{AreCutIn, HasParts, IsCutIn, Parts, number_of, part_sizes}
use Rattle.node_lumps.specs.Reading.{AreBroken, AreJoinedNodes, AreNodes, IsJoinedBroken, Lumps, MissCount, MissVertexes, counted_segs, deep_nodes, joined_nodes, left_by, made_for, seg_count, vertex_count}
use Rattle.node_lumps.specs.declared.broken.Broken.{Broken}
use Rattle.node_lumps.specs.declared.broken.Broken.TheVariants.{EndsWithin, Segs, Vertexes}
use Rattle.node_lumps.specs.declared.format.NodeFormat.{NodeFormat}
use Rattle.node_lumps.specs.declared.format.NodeFormat.TheVariants.{Xnod, Xgln, Xgl2, Xnd4}
use Rattle.node_lumps.specs.declared.format.NodeLump.{NodeLump}
use Rattle.node_lumps.specs.declared.lumps.LeftOver.{LeftOver}
use Rattle.node_lumps.specs.declared.parts.Part.{Part}
use Rattle.node_lumps.proofs.PartLemmas.{HasParts-one, cut_not_parts, cuts_one, part_from, parts_from, parts_or_cut, same_part}

-- numbers of segs as they were told
told_apart : (counted there c t : ℕ) → c ≡ counted → t ≡ there → c ≢ t → counted ≢ there
told_apart counted there c t a b apart e = apart (a ∙ e ∙ sym b)

module _ (format : NodeFormat) (vertexes lump : List ℕ) where
  pub nodes_one : (later other : Later) → AreJoinedNodes format vertexes lump later
      → AreJoinedNodes format vertexes lump other → later ≡ other
  nodes_one later other a b =
      a.reads
      ∙ ap (joined_nodes format vertexes lump) (HasParts-one format lump a.parts b.parts a.whole b.whole)
      ∙ sym b.reads

  -- parts that are there aren't cut
  not_cut : (parts : Parts) (part : Part) → HasParts format lump parts → IsCutIn format lump part → ⊥
  not_cut parts part whole cut =
      cut_not_parts (part_sizes format) (drop 8 lump)
      (parts.vertexes ∷ parts.ssectors ∷ parts.segs ∷ parts.nodes ∷ []) parts.rest (number_of part) whole.are
      cut.cut

  -- a count that is missed isn't met
  not_met : (parts : Parts) (counted there : ℕ) → HasParts format lump parts
      → counted_segs parts ≡ seg_count format parts → MissCount format lump counted there → ⊥
  not_met parts counted there whole summed missed =
      let same = HasParts-one format lump parts missed.parts whole missed.whole in
      missed.apart
      (missed.added ∙ ap counted_segs (sym same) ∙ summed ∙ ap (seg_count format) same ∙ sym missed.found)

  pub nodes_not_broken : (later : Later) (why : Broken) → AreJoinedNodes format vertexes lump later
      → IsJoinedBroken format vertexes lump why → ⊥
  nodes_not_broken later (EndsWithin named part) a b = not_cut a.parts part a.whole b.1
  nodes_not_broken later (Segs counted there) a b = not_met a.parts counted there a.whole a.summed b
  nodes_not_broken later (Vertexes made there) a b = omega (arith, a.made, b.wanted, b.found, b.past)

  pub reasons_one : (why other : Broken) → IsJoinedBroken format vertexes lump why
      → IsJoinedBroken format vertexes lump other → why ≡ other
  reasons_one (EndsWithin n p) (EndsWithin m q) a b =
      let named : n ≡ m = a.0 ∙ sym b.0 in
      let part : p ≡ q = same_part p q (cuts_one (part_sizes format) (drop 8 lump) _ _ a.1.cut b.1.cut) in cc
  reasons_one (EndsWithin n p) (Segs d u) a b = absurd (not_cut b.parts p b.whole a.1)
  reasons_one (EndsWithin n p) (Vertexes m u) a b = absurd (not_cut b.parts p b.whole a.1)
  reasons_one (Segs c t) (EndsWithin m q) a b = absurd (not_cut a.parts q a.whole b.1)
  reasons_one (Segs c t) (Segs d u) a b =
      let same = HasParts-one format lump a.parts b.parts a.whole b.whole in
      let counted : c ≡ d = a.added ∙ ap counted_segs same ∙ sym b.added in
      let there : t ≡ u = a.found ∙ ap (seg_count format) same ∙ sym b.found in cc
  reasons_one (Segs c t) (Vertexes m u) a b = absurd (not_met b.parts c t b.whole b.summed a)
  reasons_one (Vertexes m t) (EndsWithin n q) a b = absurd (not_cut a.parts q a.whole b.1)
  reasons_one (Vertexes m t) (Segs d u) a b = absurd (not_met a.parts d u a.whole a.summed b)
  reasons_one (Vertexes m t) (Vertexes n u) a b =
      let made : m ≡ n = a.wanted ∙ sym b.wanted in
      let there : t ≡ u = a.found ∙ sym b.found in cc

  -- of parts that are there
  of_parts : (parts : Parts) → HasParts format lump parts
      → ((later : Later) × AreJoinedNodes format vertexes lump later)
      ⊎ ((why : Broken) × IsJoinedBroken format vertexes lump why)
  of_parts parts whole = elim (cases_eq (counted_segs parts) (seg_count format parts)) [
    | inr apart ↦ inr (
      Segs (counted_segs parts) (seg_count format parts),
      record { parts = parts; whole = whole; added = refl; found = refl; apart = apart },
    )
    | inl summed ↦ elim (cases_lt (vertex_count vertexes) (made_for lump)) [
      | inl past ↦ inr (
        Vertexes (made_for lump) (vertex_count vertexes),
        record {
          parts = parts;
          whole = whole;
          summed = summed;
          wanted = refl;
          found = refl;
          past = past;
        },
      )
      | inr made ↦ inl (
        joined_nodes format vertexes lump parts,
        record { parts = parts; whole = whole; summed = summed; made = made; reads = refl },
      )
    ]
  ]

  pub nodes_or_reason : ((later : Later) × AreJoinedNodes format vertexes lump later)
      ⊎ ((why : Broken) × IsJoinedBroken format vertexes lump why)
  nodes_or_reason = elim (parts_or_cut (part_sizes format) (drop 8 lump)) [
    | inl there ↦
        let parts = parts_from format lump there.0 there.1 there.2 in of_parts parts.0 parts.1
    | inr cut ↦
        let part = part_from cut.0 cut.1 in
        inr (
          EndsWithin (lump_of format) part.0,
          (refl, record { cut = subst (AreCutIn (part_sizes format) (drop 8 lump)) (sym part.1) cut.2 }),
        )
  ]

  -- parts that are there, and what was found of them: how many segs they count, and of how many bytes a seg is
  module _ (parts : Parts) (whole : HasParts format lump parts) (counted size : ℕ)
      (added : counted ≡ counted_segs parts) (sized : size ≡ seg_size format) where
    there_is : length parts.segs / size ≡ seg_count format parts
    there_is = ap (λ (n : ℕ). length parts.segs / n) sized

    pub count_missed : counted ≢ length parts.segs / size → MissCount format lump counted (length parts.segs / size)
    count_missed apart = record { parts = parts; whole = whole; added = added; found = there_is; apart = apart }

    module _ (same : counted ≡ length parts.segs / size) (made : ℕ) (wanted : made ≡ made_for lump) where
      pub vertexes_missed : vertex_count vertexes < made
          → MissVertexes format vertexes lump made (vertex_count vertexes)
      vertexes_missed past = record {
        parts = parts;
        whole = whole;
        summed = sym added ∙ same ∙ there_is;
        wanted = wanted;
        found = refl;
        past = past;
      }

      -- what is left over, by the number of vertexes as it was found
      left_is : (named : NodeLump) (left : LeftOver) → named ≡ lump_of format
          → left ≡ left_by named (length vertexes - made * 4) (length parts.rest)
          → left ≡ left_by (lump_of format) (length vertexes - 4 * made_for lump) (length parts.rest)
      left_is named left lump_is is =
          let behind : length vertexes - made * 4 ≡ length vertexes - 4 * made_for lump = omega (arith, wanted) in
          is ∙ ap (λ (l : NodeLump). left_by l (length vertexes - made * 4) (length parts.rest)) lump_is
          ∙ ap (λ (n : ℕ). left_by (lump_of format) n (length parts.rest)) behind

      pub nodes_joined : (named : NodeLump) (left : LeftOver) → made ≤ vertex_count vertexes
          → named ≡ lump_of format → left ≡ left_by named (length vertexes - made * 4) (length parts.rest)
          → AreJoinedNodes format vertexes lump
          (later_of format made vertexes parts.vertexes parts.ssectors parts.segs parts.nodes left)
      nodes_joined named left few lump_is is = record {
        parts = parts;
        whole = whole;
        summed = sym added ∙ same ∙ there_is;
        made = omega (arith, wanted, few);
        reads =
            ap (λ (l : LeftOver). later_of format made vertexes parts.vertexes parts.ssectors parts.segs parts.nodes l)
            (left_is named left lump_is is)
            ∙ ap (λ (n : ℕ). later_of format n vertexes parts.vertexes parts.ssectors parts.segs parts.nodes
            (left_by (lump_of format) (length vertexes - 4 * made_for lump) (length parts.rest))) wanted;
      }

  -- what a reading, or a reason, says of each reading and of each reason
  pub only_nodes : (found : Later) → AreJoinedNodes format vertexes lump found → (later : Later)
      → (◌≡◌ {A = Result Later Broken} (Ok found) (Ok later)) ↔ AreJoinedNodes format vertexes lump later
  only_nodes found is later = (
    λ e. let same : found ≡ later = cc in subst (AreJoinedNodes format vertexes lump) same is,
    λ h. ap (λ d. Ok d) (nodes_one found later is h),
  )

  pub no_reason : (found : Later) → AreJoinedNodes format vertexes lump found → (why : Broken)
      → (◌≡◌ {A = Result Later Broken} (Ok found) (Err why)) ↔ IsJoinedBroken format vertexes lump why
  no_reason found is why = (
    λ e. absurd (let f : ⊥ = cc in f),
    λ h. absurd (nodes_not_broken found why is h),
  )

  pub no_nodes : (why : Broken) → IsJoinedBroken format vertexes lump why → (later : Later)
      → (◌≡◌ {A = Result Later Broken} (Err why) (Ok later)) ↔ AreJoinedNodes format vertexes lump later
  no_nodes why broken later = (
    λ e. absurd (let f : ⊥ = cc in f),
    λ h. absurd (nodes_not_broken later why h broken),
  )

  pub only_reason : (why : Broken) → IsJoinedBroken format vertexes lump why → (other : Broken)
      → (◌≡◌ {A = Result Later Broken} (Err why) (Err other)) ↔ IsJoinedBroken format vertexes lump other
  only_reason why broken other = (
    λ e. let same : why ≡ other = cc in subst (IsJoinedBroken format vertexes lump) same broken,
    λ h. ap (λ w. Err w) (reasons_one why other broken h),
  )

-- those of DeePBSP
pub only_deep : (lumps : Lumps) (later : Later)
    → (◌≡◌ {A = Result Later Broken} (Ok (deep_nodes lumps)) (Ok later)) ↔ AreNodes Xnd4 lumps later
only_deep lumps later = (
  λ e. let same : deep_nodes lumps ≡ later = cc in sym same,
  λ h. ap (λ d. Ok d) (sym h),
)

pub no_deep_reason : (lumps : Lumps) (why : Broken)
    → (◌≡◌ {A = Result Later Broken} (Ok (deep_nodes lumps)) (Err why)) ↔ AreBroken Xnd4 lumps why
no_deep_reason lumps why = (λ e. let f : ⊥ = cc in f, λ h. absurd h)

-- the laws
pub one_reading : OneReading
one_reading Xnod lumps later other a b = nodes_one Xnod lumps.vertexes lumps.nodes later other a b
one_reading Xgln lumps later other a b = nodes_one Xgln lumps.vertexes lumps.ssectors later other a b
one_reading Xgl2 lumps later other a b = nodes_one Xgl2 lumps.vertexes lumps.ssectors later other a b
one_reading Xnd4 lumps later other a b = a ∙ sym b

pub read_or_broken : ReadOrBroken
read_or_broken Xnod lumps = nodes_or_reason Xnod lumps.vertexes lumps.nodes
read_or_broken Xgln lumps = nodes_or_reason Xgln lumps.vertexes lumps.ssectors
read_or_broken Xgl2 lumps = nodes_or_reason Xgl2 lumps.vertexes lumps.ssectors
read_or_broken Xnd4 lumps = inl (deep_nodes lumps, refl)

pub never_both : NeverBoth
never_both Xnod lumps later why a b = nodes_not_broken Xnod lumps.vertexes lumps.nodes later why a b
never_both Xgln lumps later why a b = nodes_not_broken Xgln lumps.vertexes lumps.ssectors later why a b
never_both Xgl2 lumps later why a b = nodes_not_broken Xgl2 lumps.vertexes lumps.ssectors later why a b
never_both Xnd4 lumps later why a b = b

pub one_reason : OneReason
one_reason Xnod lumps why other a b = reasons_one Xnod lumps.vertexes lumps.nodes why other a b
one_reason Xgln lumps why other a b = reasons_one Xgln lumps.vertexes lumps.ssectors why other a b
one_reason Xgl2 lumps why other a b = reasons_one Xgl2 lumps.vertexes lumps.ssectors why other a b
one_reason Xnd4 lumps why other a b = absurd a
