-- What is asked of `wadlens`, by numbers (ours).
use Rattle.std.specs.Prelude.{◌≡◌, ◌⊎◌, ℕ, ◌<◌, ◌≤◌, ◌/◌, ◌%◌, ◌^◌, ◌==◌, ◌&&◌, ◌||◌, Bool, true, false, nat_eq, Option, Some, None, if◌then◌else◌}
use Rattle.demo_listings.specs.declared.meaning.Compared.TheVariants.{Everything, Commands}
use Rattle.lens_calls.specs.declared.asked.LensRequest.{LensRequest}
use Rattle.lens_calls.specs.declared.asked.LensWord.{LensWord}
use Rattle.lens_calls.specs.declared.asked.LensWord.TheVariants as lens
use Rattle.lens_commands.specs.PictureMarks.{marks_by}
use Rattle.lens_commands.specs.declared.picture.draw.PictureQuestion.{PictureQuestion}
use Rattle.lens_engines.specs.declared.judging.Rules.{Rules}
use Rattle.lens_engines.specs.declared.judging.Warnings.{Warnings}
use Rattle.lens_engines.specs.declared.judging.Warnings.TheVariants.{Unasked, Told}
use Rattle.lens_reports.specs.declared.cut.CutAsked.TheVariants.{Entry, Named}
use Rattle.lens_reports.specs.declared.tell.ReportKind.TheVariants.{Check, Survey, Demos}
use Rattle.lens_texts.specs.declared.form.Form.TheVariants.{Lines, Objects}
use Rattle.level_codes.specs.Codes.{code_rank}
use Rattle.level_codes.specs.Sets.{has, is_in}
use Rattle.level_codes.specs.declared.code.ReportCode.{ReportCode}
use Rattle.level_codes.specs.declared.set.CodeSet.{CodeSet}
use Rattle.level_codes.specs.declared.set.Group.TheVariants as group
use Rattle.level_codes.specs.declared.table.TheConstants.{REPORT_COUNT}
use Rattle.map_cells.specs.Frame.{Frame, IsFrame, frame_at}
use Rattle.map_picture.specs.declared.draw.View.{View}
use Rattle.wadlook_c.specs.Ends.{reading_of}
use Rattle.wadlook_c.specs.declared.question.Asked.{Asked}
use Rattle.wadlook_c.specs.declared.question.Asked.TheVariants.{OfFiles, OfInput}
use Rattle.wadlook_c.specs.declared.question.WadlookQuestion.{WadlookQuestion}

-- a bit of a number, and whether it is set
abbrev pub bit_at : ℕ → ℕ → ℕ
bit_at bits n = bits / 2 ^ n % 2

abbrev pub has_bit : ℕ → ℕ → Bool
has_bit bits n = nat_eq (bit_at bits n) 1

-- the codes whose bits are set, by their ranks
abbrev pub HasBits : ℕ → CodeSet → Type 0
HasBits bits set = (code : ReportCode) → has set code ≡ has_bit bits (code_rank code)

-- what is as grave as a fault: the codes whose bits are set, and each warning where that is asked for
abbrev pub Fails : ℕ → Bool → CodeSet → Type 0
Fails bits strict set = (code : ReportCode) → has set code ≡ (has_bit bits (code_rank code) || (strict && is_in group.Warnings code))

-- whether warnings are looked for
abbrev pub warnings_of : Bool → Warnings
warnings_of true = Told
warnings_of false = Unasked

-- how levels are judged
pub record AsksRules (question : WadlookQuestion) (rules : Rules) : Type 0 where
  pub reads : rules.reading ≡ reading_of question.wide
  pub looks : rules.warnings ≡ warnings_of question.map
  pub ignores : HasBits question.ignored rules.ignored
  pub fails : Fails question.failing question.strict rules.failing
  pub ends : rules.game_ends ≡ question.game_ends

-- how many of one code are shown: 0 shows all
abbrev pub most_of : ℕ → ℕ
most_of number = if number == 0 then 18446744073709551615 else number

-- the part that is drawn
abbrev pub frame_of : WadlookQuestion → Option Frame
frame_of question = if question.framed then Some (frame_at question.x0 question.y0 question.x1 question.y1) else None

-- how many cells the longer side has at most
abbrev pub cells_of : ℕ → ℕ
cells_of number = if number == 0 then 512 else number

-- what of a level is drawn
pub record AsksView (question : WadlookQuestion) (view : View) : Type 0 where
  pub framed : view.frame ≡ frame_of question
  pub many : view.cells ≡ cells_of question.cells
  pub rules : Rules
  pub asks : AsksRules question rules
  pub marks : view.warnings ≡ marks_by rules.warnings rules.ignored

-- there is no such view: its bounds are no frame's, or there are more cells than 1024
pub record IsNoView (question : WadlookQuestion) : Type 0 where
  pub bounds : (1024 < cells_of question.cells) ⊎ ((question.framed ≡ true) × ¬ IsFrame (frame_at question.x0 question.y0 question.x1 question.y1))

-- which picture is asked for
pub record AsksPicture (question : WadlookQuestion) (picture : PictureQuestion) : Type 0 where
  pub named : picture.name ≡ question.name
  pub reads : picture.reading ≡ reading_of question.wide
  pub view : AsksView question picture.drawn

-- the code of a rank
abbrev pub IsCodeOf : ℕ → ReportCode → Type 0
IsCodeOf rank code = code_rank code ≡ rank

-- no code has it
abbrev pub NamesNoCode : ℕ → Type 0
NamesNoCode rank = REPORT_COUNT ≤ rank

-- a word's number, and what goes with it
abbrev pub AsksWord : WadlookQuestion → LensWord → Type 0
AsksWord question (lens.Tell (Check most Lines)) = (question.word ≡ 0) × (most ≡ most_of question.number)
AsksWord question (lens.Tell Survey) = question.word ≡ 1
AsksWord question (lens.Tell (Demos Lines)) = question.word ≡ 2
AsksWord question (lens.Tell (Demos Objects)) = question.word ≡ 3
AsksWord question (lens.Cut (Entry entry)) = (question.word ≡ 4) × (entry ≡ question.number)
AsksWord question (lens.Tell (Check most Objects)) = (question.word ≡ 5) × (most ≡ most_of question.number)
AsksWord question (lens.Cut (Named name)) = (question.word ≡ 6) × (name ≡ question.name)
AsksWord question (lens.Draw picture) = (question.word ≡ 7) × AsksPicture question picture
AsksWord question (lens.Compare Everything) = question.word ≡ 8
AsksWord question (lens.Explain (Some code)) = (question.word ≡ 10) × IsCodeOf question.number code
AsksWord question (lens.Explain None) = question.word ≡ 11
AsksWord question lens.List = question.word ≡ 12
AsksWord question (lens.Compare Commands) = question.word ≡ 13

-- what is asked of files
pub record AsksFiles (question : WadlookQuestion) (request : LensRequest) : Type 0 where
  pub word_is : AsksWord question request.word
  pub judges : AsksRules question request.rules
  pub over : request.bases ≡ question.bases

-- a question asks this
abbrev pub Asks : WadlookQuestion → Asked → Type 0
Asks question (OfFiles request) = AsksFiles question request
Asks question OfInput = question.word ≡ 9

-- a question without a meaning: its word is none, or a code's rank is none, or what it draws is no view
abbrev pub IsMistaken : WadlookQuestion → Type 0
IsMistaken question = (13 < question.word) ⊎ ((question.word ≡ 10) × NamesNoCode question.number) ⊎ ((question.word ≡ 7) × IsNoView question)
