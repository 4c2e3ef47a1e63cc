-- What clauses see of ends tied to one another (ours): the input has the reader's bytes, and of the output none are known.
use Rattle.std.specs.Prelude.{ℕ, List, Option, None}
use Rattle.std.specs.Borrow.{Bor}
use Rattle.le_rec.specs.Sink.{SinkState, put_failed}
use Rattle.le_rec.specs.Source.{SourceState, pull_failed, reader_of}
use Rattle.le_rec.specs.declared.from_read.FromRead.{FromRead}
use Rattle.le_rec.specs.declared.to_write.ToWrite.{ToWrite}
use Rattle.line_io.specs.Tied.{tied_reader_of}
use Rattle.line_io.specs.declared.tied.TiedReader.{TiedReader}
use Rattle.line_io.specs.declared.tied.TiedWriter.{TiedWriter}
use Rattle.wadlook.specs.BlockSource.{bytes_left}
use Rattle.wadlook.specs.BlockSource as block
use Rattle.wadlook.specs.declared.block_source.BlockSource.{BlockSource}

-- the state of an input, where `remaining` is what is known of a reader's bytes
abbrev pub tied_source : (R W : Type 0) → (R → Option (List ℕ)) → FromRead (TiedReader R W) → SourceState
tied_source R W remaining input = record { left = remaining (tied_reader_of (reader_of input)); failed = pull_failed input }

-- the state of an output
abbrev pub tied_sink : (W : Type 0) → ToWrite (Bor (TiedWriter W)) → SinkState
tied_sink W out = record { taken = None; failed = put_failed out }

-- the state of a file that is read a block at a time, where `remaining` is what is known of a file's bytes
abbrev pub file_source : (R : Type 0) → (R → Option (List ℕ)) → BlockSource R → SourceState
file_source R remaining input = record { left = bytes_left remaining input; failed = block.pull_failed input }
