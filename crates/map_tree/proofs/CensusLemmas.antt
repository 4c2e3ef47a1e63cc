-- A tally and its pairs are a census, and numbers and their pairs areas; both have the same pairs.
use Rattle.std.proofs.Common.{ℕ, List, subst, sym}
use Rattle.std.specs.Prelude.{slice_index}
use Rattle.map_geo.specs.Rect.{Rect, IsRect}
use Rattle.map_level.specs.Level.{Level}
use Rattle.map_tree.specs.Areas.{AreAreas, AreCounted}
use Rattle.map_tree.specs.Counts.{ArePairs, IsCensus}
use Rattle.map_tree.specs.Laws.{AreasHaveCensus, CensusHasAreas}
use Rattle.map_tree.specs.PlainCount.{plain_count}
use Rattle.map_tree.specs.Sound.{IsSound}
use Rattle.map_tree.specs.Steps.{IsTally}
use Rattle.map_tree.proofs.CountedLemmas.{one_list_of_pairs, same_pairs}
use Rattle.map_tree.proofs.FewLemmas.{sized-from_sound, work_few_tests, work_few_pending}
use Rattle.map_tree.proofs.LawLemmas.{law_sectors}
use Rattle.map_tree.proofs.Sizes.{size_of}
use Rattle.map_tree.proofs.SomeWorkLemmas.{root_work}
use Rattle.map_tree.proofs.TotalLemmas.{counts_total}

pub census_from_tally : (level : Level) (rect : Rect) (counts : List ℕ) (pairs : List (ℕ × ℕ)) (tests pending : ℕ) → IsSound level → IsRect rect → IsTally level rect counts tests pending
    → ArePairs (slice_index counts) pairs → IsCensus level rect (record { pairs = pairs; tests = tests; pending = pending })
census_from_tally level rect counts pairs tests pending sound valid tally are =
    let sized = sized-from_sound level sound in
    let sector = law_sectors level sound in
    record {
      counted = λ sector tells. same_pairs (slice_index counts) _ pairs (tally.counted sector tells) are;
      total = counts_total sector.0 rect pairs (same_pairs (slice_index counts) _ pairs (tally.counted sector.0 sector.1) are);
      work = tally.work;
      few_tests = work_few_tests level (size_of level) rect sized valid tests pending tally.work;
      few_pending = work_few_pending level (size_of level) rect sized valid tests pending tally.work;
    }

pub areas_from_counted : (level : Level) (rect : Rect) (counts : List ℕ) (pairs : List (ℕ × ℕ)) → IsSound level → AreCounted level rect counts → ArePairs (slice_index counts) pairs → AreAreas level rect pairs
areas_from_counted level rect counts pairs sound counted are =
    let sector = law_sectors level sound in
    record {
      counted = λ sector tells. same_pairs (slice_index counts) _ pairs (counted sector tells) are;
      total = counts_total sector.0 rect pairs (same_pairs (slice_index counts) _ pairs (counted sector.0 sector.1) are);
    }

pub census_has_areas : CensusHasAreas
census_has_areas level rect counts pairs sound census =
    let sector = law_sectors level sound in (
      (λ areas. one_list_of_pairs (λ s. plain_count sector.0 s rect) pairs counts.pairs (areas.counted sector.0 sector.1) (census.counted sector.0 sector.1)),
      (λ same. subst (AreAreas level rect) (sym same) (record { counted = census.counted; total = census.total })),
    )

pub areas_have_census : AreasHaveCensus
areas_have_census level rect pairs sound valid areas =
    let sized = sized-from_sound level sound in
    let work = root_work level rect sound valid in (
      work.0,
      work.1,
      record {
        counted = areas.counted;
        total = areas.total;
        work = work.2;
        few_tests = work_few_tests level (size_of level) rect sized valid work.0 work.1 work.2;
        few_pending = work_few_pending level (size_of level) rect sized valid work.0 work.1 work.2;
      },
    )
