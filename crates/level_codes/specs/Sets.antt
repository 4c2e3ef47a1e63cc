-- Sets of codes (ours), and the words that name them.
use Rattle.std.specs.Prelude.{◌≡◌, ◌⊎◌, ℕ, ◌≤◌, ◌<◌, Bool, true, false, ◌&&◌, ◌||◌, not, List, codes, get_or, length, map, nat_eq, nat_lt, replicate}
use Rattle.std.specs.List.{after_first, before_first, position_or_len}
use Rattle.level_codes.specs.Codes.{class_of, code_name, code_rank, ends_game, is_fault_code, report_order, small, wants_of}
use Rattle.level_codes.specs.Kind.{are_met}
use Rattle.level_codes.specs.declared.code.ReportCode.{ReportCode}
use Rattle.level_codes.specs.declared.kind.Class.{Class}
use Rattle.level_codes.specs.declared.kind.Class.TheVariants.{Fault, Note, Warning}
use Rattle.level_codes.specs.declared.kind.Offer.{Offer}
use Rattle.level_codes.specs.declared.set.CodeSet.{CodeSet}
use Rattle.level_codes.specs.declared.set.Group.{Group}
use Rattle.level_codes.specs.declared.set.Group.TheVariants.{Game, Notes, Warnings}
use Rattle.level_codes.specs.declared.table.TheConstants.{REPORT_COUNT}

-- whether a code is in a set
abbrev pub has : CodeSet → ReportCode → Bool
has set code = get_or set.codes (code_rank code) false

-- the codes that pass a test
abbrev pub set_of : (ReportCode → Bool) → CodeSet
set_of test = record { codes = map test report_order }

-- no code
abbrev pub no_codes : CodeSet
no_codes = record { codes = replicate REPORT_COUNT false }

-- the codes of two sets together
abbrev pub in_either : CodeSet → CodeSet → ReportCode → Bool
in_either a b code = has a code || has b code

abbrev pub with_codes : CodeSet → CodeSet → CodeSet
with_codes a b = set_of (in_either a b)

-- the codes of one set that are in another, too, and those that aren't
abbrev pub in_both : CodeSet → CodeSet → ReportCode → Bool
in_both a b code = has a code && has b code

abbrev pub common_codes : CodeSet → CodeSet → CodeSet
common_codes a b = set_of (in_both a b)

abbrev pub in_first_alone : CodeSet → CodeSet → ReportCode → Bool
in_first_alone a b code = has a code && not (has b code)

abbrev pub without_codes : CodeSet → CodeSet → CodeSet
without_codes a b = set_of (in_first_alone a b)

-- the codes that want what a level hasn't
abbrev pub is_unmet : Offer → ReportCode → Bool
is_unmet offer code = not (are_met offer (wants_of code))

abbrev pub unmet_codes : Offer → CodeSet
unmet_codes offer = set_of (is_unmet offer)

-- the codes of which there are any, by their ranks
abbrev pub is_counted : List ℕ → ReportCode → Bool
is_counted counts code = nat_lt 0 (get_or counts (code_rank code) 0)

abbrev pub counted_codes : List ℕ → CodeSet
counted_codes counts = set_of (is_counted counts)

-- the codes from one to another in the order of a report, both among them
abbrev pub is_between : ReportCode → ReportCode → ReportCode → Bool
is_between first last code = not (nat_lt (code_rank code) (code_rank first)) && not (nat_lt (code_rank last) (code_rank code))

abbrev pub codes_between : ReportCode → ReportCode → CodeSet
codes_between first last = set_of (is_between first last)

-- a code is in both
abbrev pub IsShared : CodeSet → CodeSet → ReportCode → Type 0
IsShared a b code = (has a code ≡ true) × (has b code ≡ true)

abbrev pub Shares : CodeSet → CodeSet → Type 0
Shares a b = (code : ReportCode) × IsShared a b code

-- the codes of a group: those at which the released game ends, the notes, the warnings
abbrev pub is_note : Class → Bool
is_note Fault = false
is_note Note = true
is_note Warning = false

abbrev pub is_warning : Class → Bool
is_warning Fault = false
is_warning Note = false
is_warning Warning = true

abbrev pub is_in : Group → ReportCode → Bool
is_in Game code = ends_game code
is_in Notes code = is_note (class_of code)
is_in Warnings code = is_warning (class_of code)

abbrev pub group_codes : Group → CodeSet
group_codes group = set_of (is_in group)

-- a group's name, as a word has it
abbrev pub group_name : Group → List ℕ
group_name Game = codes "game"
group_name Notes = codes "notes"
group_name Warnings = codes "warnings"

-- a word is a note's or a warning's code, in small letters too
pub record IsCalled (word : List ℕ) (code : ReportCode) : Type 0 where
  pub named : small (code_name code) ≡ small word
  pub kept : is_fault_code code ≡ false

-- the hyphen of a range
abbrev pub is_hyphen : ℕ → Bool
is_hyphen byte = nat_eq byte 45

-- two codes have one letter, and stand in their order
pub record Rises (first last : ReportCode) : Type 0 where
  pub class : class_of first ≡ class_of last
  pub order : code_rank first ≤ code_rank last

-- a word is a range of codes of one letter, which rises: the first hyphen stands between them
pub record IsRange (word : List ℕ) (first last : ReportCode) : Type 0 where
  pub parted : position_or_len is_hyphen word < length word
  pub front : IsCalled (before_first is_hyphen word) first
  pub back : IsCalled (after_first is_hyphen word) last
  pub rises : Rises first last

-- a word writes these codes out: as one code, or as a range
abbrev pub IsOne : List ℕ → CodeSet → Type 0
IsOne word set = (code : ReportCode) × IsCalled word code × (set ≡ codes_between code code)

abbrev pub IsSpan : List ℕ → CodeSet → Type 0
IsSpan word set = (first : ReportCode) × (last : ReportCode) × IsRange word first last × (set ≡ codes_between first last)

abbrev pub IsWritten : List ℕ → CodeSet → Type 0
IsWritten word set = IsOne word set ⊎ IsSpan word set
