-- What each line or object of a level begins with (ours): its form, the file's path and the label.
use Rattle.std.specs.Prelude.{ℕ, List}
use Rattle.lens_texts.specs.declared.form.Form.{Form}
use Rattle.lens_texts.specs.declared.form.Form.TheVariants.{Lines, Objects}
use Rattle.lens_texts.specs.declared.label.LevelLabel.{LevelLabel}
use Rattle.lens_texts.specs.declared.lines.Heading.{Heading}

pub record Head : Type 0 where
  pub form : Form
  pub path : List ℕ
  pub label : LevelLabel

abbrev pub head_of : Heading → Head
head_of heading = record { form = heading.form; path = heading.path.now; label = heading.label }

-- a line or an object, by the form
abbrev pub by_form : Form → List ℕ → List ℕ → List ℕ
by_form Lines line object = line
by_form Objects line object = object
