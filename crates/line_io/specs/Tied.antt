-- What clauses see of a reader that is tied to an output (ours).
use Rattle.line_io.specs.declared.tied.TiedReader.{TiedReader}

-- the reader inside
abbrev pub tied_reader_of : {R W : Type 0} → TiedReader R W → R
tied_reader_of tied = tied.reader
