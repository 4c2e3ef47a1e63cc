use Rattle.demo_listings.specs.Listing.{listing}
use Rattle.lens_engines.specs.declared.verdict.Verdict.TheVariants.{Clean}
use Rattle.lens_reports.proofs.JobLemmas.{rest_after}
use Rattle.lens_commands.proofs.listing.list_demo.Goals as goal

pub returns-in-Ok : goal.returns-in-Ok
returns-in-Ok g c =
    rest_after g.O.Write.contents (listing c.args.demo.now) Clean c.args.out.now c.write_listing.new.out c.write_rest.new.out c.write_rest.result c.in-Ok.ensures.takes.whole c.write_rest.ensures
