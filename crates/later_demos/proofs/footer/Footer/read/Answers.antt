use Rattle.std.proofs.Common.{refl}
use Rattle.later_demos.specs.Footer.IsFooter.{of_text, of_wad}
use Rattle.later_demos.proofs.FooterLemmas.{refused_directory}
use Rattle.later_demos.proofs.footer.Footer.read.Goals as goal

pub returns-in-Ok : goal.returns-in-Ok
returns-in-Ok c =
    let read = (c.in-Ok.ensures.ok c.in-Ok.file).0 refl in
    of_wad _ (record {
      file = c.in-Ok.file;
      of_rest = read.0;
      read = read.1;
      port = c.text_named.ensures;
      words = c.text_named-in-Ok.ensures;
    })

pub returns-in-Err : goal.returns-in-Err
returns-in-Err c =
    rw c.read_lines.ensures
    (of_text (refused_directory c.args.rest.now c.in-Err.field-0 ((c.in-Err.ensures.refused c.in-Err.field-0).0 refl)))
