-- What of the map a picture shows (ours). Map units go up in y, an SVG's go down.
use Rattle.std.specs.Prelude.{pos, ◌+ℤ◌, ◌-ℤ◌}
use Rattle.map_cells.specs.Frame.{Frame}
use Rattle.map_picture.specs.declared.window.Window.{Window}

-- a frame, with 32 units around it
abbrev pub window_of : Frame → Window
window_of frame = record {
  left = frame.x0 -ℤ pos 32;
  top = (pos 0 -ℤ frame.y1) -ℤ pos 32;
  width = (frame.x1 -ℤ frame.x0) +ℤ pos 64;
  height = (frame.y1 -ℤ frame.y0) +ℤ pos 64;
}
