-- The part of a picture about a place (SVG 1.1, section 17.3.2: `svgView` and `viewBox`). Map units go up in y, an SVG's go down.
use Rattle.std.specs.Prelude.{ℕ, pos, ◌+ℤ◌, ◌-ℤ◌, List, ◌++◌, codes}
use Rattle.std.specs.Fmt.{signed_decimal}
use Rattle.std.specs.Int.{int_max, int_min}
use Rattle.lens_texts.specs.declared.place.PlaceEnds.{PlaceEnds}
use Rattle.atlas_page.specs.declared.map_view.MapView.{MapView}

-- what lies between the two ends of a place, with 256 units around it
abbrev pub view_of : PlaceEnds → MapView
view_of ends = record {
  left = int_min ends.from.x ends.to.x -ℤ pos 256;
  top = (pos 0 -ℤ int_max ends.from.y ends.to.y) -ℤ pos 256;
  width = (int_max ends.from.x ends.to.x -ℤ int_min ends.from.x ends.to.x) +ℤ pos 512;
  height = (int_max ends.from.y ends.to.y -ℤ int_min ends.from.y ends.to.y) +ℤ pos 512;
}

-- `#svgView(viewBox({left},{top},{width},{height}))`, behind the name of a picture
unfoldable pub view_text : MapView → List ℕ
view_text view =
    codes "#svgView(viewBox(" ++ (signed_decimal view.left ++ (codes "," ++ (signed_decimal view.top
    ++ (codes "," ++ (signed_decimal view.width ++ (codes "," ++ (signed_decimal view.height ++ codes "))")))))))
