-- The laws of this crate's definitions (ours).
use Rattle.std.specs.Prelude.{◌≡◌, Some, ◌^◌, ◌<◌, ◌↔◌, ℕ, ℤ, List, take}
use Rattle.std.specs.Fmt.{decimal, signed_decimal}
use Rattle.std.specs.Int.{w64}
use Rattle.std.specs.Int.RustNames.{FitsSigned}
use Rattle.line_io.specs.Decimal.{IsDecimal}
use Rattle.line_io.specs.LineAnswers.{line_answer}
use Rattle.line_io.specs.Lines.{AreLines, IsContent, content, lines}
use Rattle.line_io.specs.Numbers.{AreNumbers, IsNumber, numbers_of}

abbrev pub LinesAreLines : Type 0
LinesAreLines = (input : List ℕ) → AreLines input (lines input)

abbrev pub OnlyLines : Type 0
OnlyLines = (input : List ℕ) (parts : List (List ℕ)) → AreLines input parts → parts ≡ lines input

abbrev pub ContentIsContent : Type 0
ContentIsContent = (line : List ℕ) → IsContent line (content line)

abbrev pub FirstBytesDecide : Type 0
FirstBytesDecide =
    (answer : List ℕ → List ℕ) (line : List ℕ)
    → line_answer answer (take 66 line) ≡ line_answer answer line

abbrev pub OneReading : Type 0
OneReading =
    (content : List ℕ) (numbers others : List ℤ) → AreNumbers content numbers
    → AreNumbers content others → numbers ≡ others

abbrev pub OneText : Type 0
OneText =
    (text : List ℕ) (number : ℕ) → number < 2 ^ 64 → IsDecimal text number ↔ (text ≡ decimal number)

abbrev pub PrintedIsRead : Type 0
PrintedIsRead = (number : ℤ) → FitsSigned w64 number → IsNumber (signed_decimal number) number

abbrev pub ReadByParts : Type 0
ReadByParts =
    (content : List ℕ) (numbers : List ℤ)
    → AreNumbers content numbers ↔ (numbers_of content ≡ Some numbers)
