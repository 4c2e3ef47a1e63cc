-- Texts of the page, computed on small rows: each is what stands here.
use Rattle.std.proofs.Common.{◌≡◌, ℕ, Bool, true, false, List, [], ◌∷◌, ◌++◌, Some, refl, ap, ◌∙◌}
use Rattle.std.specs.Fmt.{digits}
use Rattle.std.specs.Prelude.{codes}
use Rattle.lens_texts.specs.declared.unread.Unread.TheVariants.{Incomplete, Extended}
use Rattle.node_lumps.specs.declared.broken.Broken.TheVariants as broken
use Rattle.map_level.specs.declared.finding.Code.TheVariants.{F4, F5}
use Rattle.map_level.specs.declared.reading.Reading.TheVariants.{Signed}
use Rattle.lens_texts.proofs.CaseLevels.{level}
use Rattle.lens_texts.specs.ShownPath.{shown_after}
use Rattle.lens_texts.specs.declared.remark.Remark.TheVariants as remark
use Rattle.atlas_page.specs.Items.{code_item, number_item}
use Rattle.atlas_page.specs.MapView.{view_text}
use Rattle.atlas_page.specs.Messages.{item_start, left_item, message_item}
use Rattle.atlas_page.specs.PictureName.{picture_name}
use Rattle.atlas_page.specs.Text.{path_text}
use Rattle.atlas_page.specs.Legend.{legend_part}
use Rattle.atlas_page.specs.Page.{day_part, title_counts}
use Rattle.atlas_page.specs.Refused.{refused_part}
use Rattle.atlas_page.specs.Rows.{faulty_rows, is_faulty, other_rows, row_text, totals_of_rows}
use Rattle.atlas_page.specs.declared.refused.RefusedFile.{RefusedFile}
use Rattle.atlas_page.specs.declared.row.Row.{Row}
use Rattle.level_codes.specs.Codes.{code_table}
use Rattle.level_codes.specs.declared.code.ReportCode.TheVariants.{Warning}
use Rattle.level_codes.specs.declared.code.WarningCode.TheVariants.{W2}
use Rattle.map_level.specs.declared.finding.Code.{Code}
use Rattle.level_codes.specs.Sets.{no_codes}
use Rattle.lens_engines.specs.Unlisted.{none_unlisted}
use Rattle.lens_engines.specs.declared.judging.Warnings.TheVariants.{Told}
use Rattle.lens_engines.specs.declared.object.FileRefusal.TheVariants.{TooLarge}
use Rattle.lens_engines.specs.declared.surveyed.Surveyed.TheVariants as surveyed
use Rattle.lens_engines.specs.declared.tables.Tables.{Tables}
use Rattle.lens_engines.specs.declared.unjudged.Unjudged.{Unjudged}

abbrev tables : Tables
tables = record { things = 1; linedefs = 20; sidedefs = 300; vertexes = 4; segs = 5; ssectors = 6; nodes = 7; sectors = 65535; reject = 8; blockmap = 9 }

-- so often F3, so often N3, and so many W1 and W8
abbrev counts : ℕ → ℕ → ℕ → ℕ → List ℕ
counts faults notes first last =
    0 ∷ 0 ∷ faults ∷ 0 ∷ 0 ∷ 0 ∷ 0 ∷ 0 ∷ 0 ∷ 0 ∷ 0 ∷ 0 ∷ 0 ∷ 0 ∷ 0 ∷ 0 ∷ 0 ∷ 0 ∷ 0 ∷ 0 ∷ notes ∷ 0 ∷ 0 ∷ 0 ∷ 0 ∷ 0 ∷ 0 ∷ 0 ∷ 0 ∷ 0
    ∷ first ∷ 0 ∷ 0 ∷ 0 ∷ 0 ∷ 0 ∷ 0 ∷ last ∷ 0 ∷ 0 ∷ 0 ∷ []

-- the items of a level's tables
abbrev table_list : List ℕ
table_list =
    codes "<ul class=\"counts\">\n<li><b>1</b> things</li>\n<li><b>20</b> linedefs</li>\n<li><b>300</b> sidedefs</li>\n<li><b>4</b> vertexes</li>\n"
    ++ codes "<li><b>5</b> segs</li>\n<li><b>6</b> ssectors</li>\n<li><b>7</b> nodes</li>\n<li><b>65535</b> sectors</li>\n</ul>\n</div>\n</li>\n"

-- in a path an escape, a control of two bytes and markup, and a letter of two bytes, which is none of them
path_with_controls : path_text (60 ∷ 27 ∷ 194 ∷ 133 ∷ 195 ∷ 164 ∷ []) ≡ codes "&lt;\\x1b\\xc2\\x85" ++ (195 ∷ 164 ∷ [])
unfolding path_text shown_after
path_with_controls = refl

plain_path : path_text (codes "a.wad") ≡ codes "a.wad"
unfolding path_text shown_after
plain_path = refl

path_with_markup : path_text (codes "<a&b>.wad") ≡ codes "&lt;a&amp;b&gt;.wad"
unfolding path_text shown_after
path_with_markup = refl

-- the message of a finding on the small level, as a file's second, at entry 15, with a picture or without
abbrev message_of : Bool → Code → ℕ → List ℕ
message_of drawn code index =
    message_item (record { file = 2; entry = 15; drawn = drawn }) (level Signed) (remark.Finding (record { code = code; index = index }))

line_linked : message_of true F4 1
    ≡ codes "<li class=\"fault\"><a href=\"2-15.svg#svgView(viewBox(-240,-257,20496,529))\">"
    ++ codes "F4 linedef 1: front sidedef 9 isn't there (2 sidedefs), from (16, -16) to (20000, 1)</a></li>\n"
unfolding digits code_table item_start view_text picture_name
line_linked = refl

sidedef_linked : message_of true F5 1
    ≡ codes "<li class=\"fault\"><a href=\"2-15.svg#svgView(viewBox(-240,-257,20496,529))\">F5 sidedef 1: sector -1 isn't there (0 sectors), of linedef 1</a></li>\n"
unfolding digits code_table item_start view_text picture_name
sidedef_linked = refl

-- its linedef has one end alone
lone_end_unlinked : message_of true F5 0 ≡ codes "<li class=\"fault\">F5 sidedef 0: sector 4 isn't there (0 sectors), of linedef 0</li>\n"
unfolding digits code_table item_start
lone_end_unlinked = refl

undrawn_unlinked : message_of false F5 1 ≡ codes "<li class=\"fault\">F5 sidedef 1: sector -1 isn't there (0 sectors), of linedef 1</li>\n"
unfolding digits code_table item_start
undrawn_unlinked = refl

five_left : left_item (Warning W2) 5 ≡ codes "<li class=\"warning\">W2: 5 more</li>\n"
unfolding digits code_table left_item
five_left = refl

-- markup in a path and in a name; two faults of one code and seven notes of another, with a message
faulty_row : (row : Row) → row.file ≡ 2 → row.path.now ≡ codes "<a&b>.wad" → row.entry ≡ 15 → row.name ≡ codes "E\"M1"
    → row.messages.items.items ≡ codes "<li>a</li>\n"
    → row.found ≡ surveyed.Judged (record { tables = tables; counts = counts 2 7 0 0; warnings = Told; fails = false; unlooked = no_codes; unlisted = none_unlisted; drawn = true })
    → row_text row
    ≡ codes "<li class=\"faulty\">\n<a class=\"map\" href=\"2-15.svg\"><img loading=\"lazy\" src=\"2-15.svg\" alt=\"map of E&quot;M1\"></a>\n"
    ++ (codes "<div>\n<h2>E&quot;M1</h2>\n<p class=\"where\">&lt;a&amp;b&gt;.wad <span>entry 15, doom</span></p>\n"
    ++ (codes "<ul class=\"found\">\n<li class=\"fault\">F3 &times; 2</li>\n<li class=\"note\">N3 &times; 7</li>\n</ul>\n<ul class=\"messages\">\n<li>a</li>\n</ul>\n" ++ table_list))
unfolding digits number_item code_item picture_name code_table
faulty_row row file path entry name messages found = rw (file, ap path_text path ∙ path_with_markup, entry, name, messages, found) refl

-- no fault, with a note and warnings of two codes, no message, and nothing to draw
sound_row : (row : Row) → row.file ≡ 1 → row.path.now ≡ codes "a.wad" → row.entry ≡ 0 → row.name ≡ codes "MAP01"
    → row.messages.items.items ≡ []
    → row.found ≡ surveyed.Judged (record { tables = tables; counts = counts 0 1 4 1; warnings = Told; fails = false; unlooked = no_codes; unlisted = none_unlisted; drawn = false })
    → row_text row
    ≡ codes "<li class=\"sound\">\n<p class=\"map\">no picture</p>\n"
    ++ (codes "<div>\n<h2>MAP01</h2>\n<p class=\"where\">a.wad <span>entry 0, doom</span></p>\n"
    ++ (codes "<ul class=\"found\">\n<li class=\"sound\">sound</li>\n<li class=\"note\">N3 &times; 1</li>\n<li class=\"warning\">W1 &times; 4</li>\n<li class=\"warning\">W8 &times; 1</li>\n</ul>\n" ++ table_list))
unfolding digits number_item code_item picture_name code_table
sound_row row file path entry name messages found = rw (file, ap path_text path ∙ plain_path, entry, name, messages, found) refl

-- the last lump isn't there
broken_row : (row : Row) (unjudged : Unjudged) → row.file ≡ 1 → row.path.now ≡ codes "a.wad" → row.entry ≡ 3 → row.name ≡ codes "MAP01"
    → unjudged.unread ≡ Incomplete 10 → row.found ≡ surveyed.Unjudged unjudged
    → row_text row
    ≡ codes "<li class=\"faulty\">\n<p class=\"map\">no picture</p>\n"
    ++ (codes "<div>\n<h2>MAP01</h2>\n<p class=\"where\">a.wad <span>entry 3, incomplete</span></p>\n"
    ++ codes "<p class=\"told\">incomplete: no BLOCKMAP where it belongs\n</p>\n</div>\n</li>\n")
unfolding digits
broken_row row unjudged file path entry name told found = rw (file, ap path_text path ∙ plain_path, entry, name, found, told) refl

-- the nodes are broken
broken_nodes_row : (row : Row) (unjudged : Unjudged) → row.file ≡ 1 → row.path.now ≡ codes "a.wad" → row.entry ≡ 3 → row.name ≡ codes "MAP01"
    → unjudged.unread ≡ Extended (codes "XNOD") (Some (broken.Vertexes 3 2)) → row.found ≡ surveyed.Unjudged unjudged
    → row_text row
    ≡ codes "<li class=\"faulty\">\n<p class=\"map\">no picture</p>\n"
    ++ (codes "<div>\n<h2>MAP01</h2>\n<p class=\"where\">a.wad <span>entry 3, extended</span></p>\n"
    ++ codes "<p class=\"told\">extended nodes XNOD: made for 3 vertexes, VERTEXES has 2\n</p>\n</div>\n</li>\n")
unfolding digits
broken_nodes_row row unjudged file path entry name told found = rw (file, ap path_text path ∙ plain_path, entry, name, found, told) refl

-- a row with a fault stands before one without, and each once
faulty_first : (a b : Row) → is_faulty a ≡ false → is_faulty b ≡ true → faulty_rows (a ∷ b ∷ []) ++ other_rows (a ∷ b ∷ []) ≡ (row_text b ++ []) ++ (row_text a ++ [])
faulty_first a b sound faulty = rw (sound, faulty) refl

sample_counts : title_counts 2 (totals_of_rows []) ≡ codes ": 0 levels in 2 files</title>\n"
unfolding digits title_counts
sample_counts = refl

no_day : day_part [] ≡ []
no_day = refl

some_day : day_part (codes "<a&b>.wad") ≡ codes "<p class=\"day\">&lt;a&amp;b&gt;.wad</p>\n"
some_day = rw path_with_markup refl

-- of a level with F3, N3 and W1 and of one that isn't judged, the three codes
three_codes : (a b : Row) (unjudged : Unjudged)
    → a.found ≡ surveyed.Judged (record { tables = tables; counts = counts 2 7 1 0; warnings = Told; fails = false; unlooked = no_codes; unlisted = none_unlisted; drawn = true })
    → b.found ≡ surveyed.Unjudged unjudged
    → legend_part (b ∷ a ∷ [])
    ≡ codes "<ul class=\"legend\">\n<li class=\"fault\"><b>F3</b> a linedef's vertex isn't there</li>\n"
    ++ (codes "<li class=\"note\"><b>N3</b> a linedef is two-sided, without a back sidedef</li>\n"
    ++ codes "<li class=\"warning\"><b>W1</b> a sector isn't closed: its outline has a gap or an extra line</li>\n</ul>\n")
unfolding code_table
three_codes a b unjudged found other = rw (found, other) refl

none_refused : refused_part [] ≡ []
none_refused = refl

one_refused : (refused : RefusedFile) → refused.path.now ≡ codes "<a&b>.wad" → refused.why ≡ TooLarge
    → refused_part (refused ∷ []) ≡ codes "<ul class=\"refused\">\n<li><b>&lt;a&amp;b&gt;.wad</b> larger than 268435456 bytes</li>\n</ul>\n"
one_refused refused path why = rw (ap path_text path ∙ path_with_markup, why) refl
