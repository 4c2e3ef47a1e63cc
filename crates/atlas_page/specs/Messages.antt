-- The messages of a card (ours): what a check says of its level, each as an item of a list, linked to its place in the level's picture.
use Rattle.std.specs.Prelude.{ℕ, List, [], ◌∷◌, ◌++◌, codes, length, nat_eq, Option, None, if◌then◌else◌}
use Rattle.std.specs.Fmt.{decimal}
use Rattle.std.specs.Option.{option_map_or}
use Rattle.level_codes.specs.Codes.{class_of, code_name}
use Rattle.level_codes.specs.Kind.{class_name}
use Rattle.level_codes.specs.declared.code.ReportCode.{ReportCode}
use Rattle.map_level.specs.Level.{Level}
use Rattle.lens_texts.specs.Escape.{escaped}
use Rattle.lens_texts.specs.Parts.{joined}
use Rattle.lens_texts.specs.Remark.{remark_code, remark_ends}
use Rattle.lens_texts.specs.RemarkLine.{remark_words}
use Rattle.lens_texts.specs.declared.place.PlaceEnds.{PlaceEnds}
use Rattle.lens_texts.specs.declared.remark.Remark.{Remark}
use Rattle.atlas_page.specs.MapView.{view_of, view_text}
use Rattle.atlas_page.specs.PictureName.{picture_name}
use Rattle.atlas_page.specs.declared.map_view.MapView.{MapView}
use Rattle.atlas_page.specs.declared.messages.MessageItems.{MessageItems}

-- `<li class="{class}">`
unfoldable pub item_start : ReportCode → List ℕ
item_start code = codes "<li class=\"" ++ (class_name (class_of code) ++ codes "\">")

-- the place that a message is linked to: its own, if there is a picture
abbrev pub link_ends : MessageItems → Level → Remark → Option PlaceEnds
link_ends form level remark = if form.drawn then remark_ends level remark else None

-- `<a href="{picture}#svgView(viewBox({left},{top},{width},{height}))">`
abbrev pub link_parts : ℕ → ℕ → MapView → List (List ℕ)
link_parts file entry view = codes "<a href=\"" ∷ picture_name file entry ∷ view_text view ∷ codes "\">" ∷ []

abbrev pub link_start : MessageItems → PlaceEnds → List ℕ
link_start form ends = joined (link_parts form.file form.entry (view_of ends))

-- what a check's line says behind the label, within a link to a place
abbrev pub within_link : MessageItems → PlaceEnds → Level → Remark → List ℕ
within_link form ends level remark = link_start form ends ++ (escaped (remark_words level remark) ++ codes "</a>")

-- that, within a link if there is something to link to
abbrev pub linked_text : MessageItems → Level → Remark → List ℕ
linked_text form level remark =
    option_map_or (λ ends. within_link form ends level remark) (link_ends form level remark) (escaped (remark_words level remark))

-- `<li class="{class}">{message}</li>`
abbrev pub message_item : MessageItems → Level → Remark → List ℕ
message_item form level remark = item_start (remark_code remark) ++ (linked_text form level remark ++ codes "</li>\n")

-- how many of a code are left out: `<li class="{class}">{code}: {left} more</li>`
unfoldable pub left_item : ReportCode → ℕ → List ℕ
left_item code left =
    codes "<li class=\"" ++ (class_name (class_of code)
    ++ (codes "\">" ++ (code_name code ++ (codes ": " ++ (decimal left ++ codes " more</li>\n")))))

-- the list of the items, where there are any
abbrev pub list_parts : List ℕ → List (List ℕ)
list_parts items = codes "<ul class=\"messages\">\n" ∷ items ∷ codes "</ul>\n" ∷ []

abbrev pub messages_part : List ℕ → List ℕ
messages_part items = if nat_eq (length items) 0 then [] else joined (list_parts items)
