use Rattle.std.proofs.Common.{◌≡◌, ◌+◌, length}
use Rattle.demo_lump.proofs.CommandLemmas.{AreCommands-length}
use Rattle.demo_lump.proofs.WritingLemmas.{demo_put}
use Rattle.demo_lump.proofs.write.put_demo.Goals as goal

pub returns : goal.returns
returns c =
    let header = c.args.header.now in
    let long =
    AreCommands-length header.version c.put_commands.new.bytes c.args.commands.now
    c.put_commands.ensures in
    let room : length c.args.bytes.now ≡ 13 + length c.put_commands.new.bytes + 1 =
    rw long c.requires.room in
    record {
      front = c.put_header.new.bytes;
      body = c.put_commands.new.bytes;
      joined =
          demo_put c.args.bytes.now c.put_header.new.bytes c.put_commands.new.bytes room
          c.put_header.ensures.long;
      begins = c.put_header.ensures;
      follow = c.put_commands.ensures;
    }
