-- How the page looks (CSS, ours): the style sheet that the code has, dark and light as the reader's system is, with nothing to fetch.
use Rattle.std.specs.Prelude.{ℕ, List}
use Rattle.atlas_page.specs.declared.style.TheConstants.{STYLE}

unfoldable pub style_text : List ℕ
style_text = STYLE.now
