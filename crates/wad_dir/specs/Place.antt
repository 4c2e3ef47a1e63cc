-- Where an entry says that its lump lies (filelump_t of w_wad.h).
use Rattle.wad_dir.specs.Entries.{Listed}
use Rattle.wad_dir.specs.declared.set.Place.{Place}

abbrev pub place_of : Listed → Place
place_of listed =
    record { file = listed.file; filepos = listed.entry.filepos; size = listed.entry.size }
