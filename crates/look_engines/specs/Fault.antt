-- The faults of a run (ours).
use Rattle.std.specs.Prelude.{Result, Ok, Err}
use Rattle.demo_lump.specs.declared.fault.StreamFault.{StreamFault}
use Rattle.demo_lump.specs.declared.fault.StreamFault.TheVariants as stream
use Rattle.line_io.specs.declared.fault.IoFault.{IoFault}
use Rattle.line_io.specs.declared.fault.IoFault.TheVariants as io
use Rattle.look_engines.specs.declared.fault.RunFault.{RunFault}
use Rattle.look_engines.specs.declared.fault.RunFault.TheVariants.{Demo, Read, Write, TooLong, Memory}

-- a fault of reading or writing, as one of a run
abbrev pub run_fault : IoFault → RunFault
run_fault io.Read = Read
run_fault io.Write = Write
run_fault io.TooLong = TooLong
run_fault io.Memory = Memory

-- how reading or writing ended, as the end of a run
abbrev pub run_end : {T : Type 0} → Result T IoFault → Result T RunFault
run_end (Ok x) = Ok x
run_end (Err fault) = Err (run_fault fault)

-- why a source gave no further piece of a demo, as a fault of a run
abbrev pub stream_fault : StreamFault → RunFault
stream_fault (stream.Demo why) = Demo why
stream_fault stream.Read = Read
stream_fault stream.TooLong = TooLong
