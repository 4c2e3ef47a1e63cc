-- The text of a level, in the form that is asked for (ours).
use Rattle.std.specs.Prelude.{ℕ, List, [], ◌∷◌, ◌++◌, codes}
use Rattle.level_codes.specs.declared.code.ReportCode.{ReportCode}
use Rattle.map_level.specs.Level.{Level}
use Rattle.map_level.specs.declared.finding.Finding.{Finding}
use Rattle.map_warnings.specs.declared.warning.Warning.{Warning}
use Rattle.lens_texts.specs.FormatLine.{format_text}
use Rattle.lens_texts.specs.Head.{Head, by_form}
use Rattle.lens_texts.specs.LevelObject.{level_members, other_members}
use Rattle.lens_texts.specs.RemarkLine.{left_line, level_line, remark_line}
use Rattle.lens_texts.specs.RemarkObject.{left_object, remark_object, wide_object}
use Rattle.lens_texts.specs.Unread.{unread_format}
use Rattle.lens_texts.specs.declared.remark.Remark.{Remark}
use Rattle.lens_texts.specs.declared.remark.Remark.TheVariants as remark
use Rattle.lens_texts.specs.declared.unread.Unread.{Unread}

-- a remark
abbrev pub remark_text : Head → Level → Remark → List ℕ
remark_text head level remark = by_form head.form (remark_line head.path head.label level remark) (remark_object head.path head.label level remark)

-- that is, a finding, and a warning
abbrev pub finding_text : Head → Level → Finding → List ℕ
finding_text head level f = remark_text head level (remark.Finding f)

abbrev pub warning_text : Head → Level → Warning → List ℕ
warning_text head level w = remark_text head level (remark.Warning w)

-- how many of a code are left out
abbrev pub left_text : Head → ReportCode → ℕ → List ℕ
left_text head code left = by_form head.form (left_line head.path head.label code left) (left_object head.path head.label code left)

-- that the wide reading alone finds the level sound
abbrev pub wide_text : Head → List ℕ
wide_text head = by_form head.form (level_line head.path head.label (codes "sound with --wide" ++ 10 ∷ [])) (wide_object head.path head.label)

-- that the level isn't judged
abbrev pub unjudged_text : Head → Unread → List ℕ
unjudged_text head unread = by_form head.form (level_line head.path head.label (format_text unread))
    (level_members head.path head.label.name head.label.entry (unread_format unread) ++ other_members unread)
