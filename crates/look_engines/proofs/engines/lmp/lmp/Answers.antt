use Rattle.std.proofs.Common.{ap}
use Rattle.std.proofs.lemmas.Result.{err_from_is_err_and}
use Rattle.demo_lump.specs.DemoReader.{DemoReader}
use Rattle.look_engines.proofs.engines.LmpEndLemmas.{ends_before}
use Rattle.look_engines.proofs.engines.lmp.lmp.Goals as goal

pub returns-in_err-header : goal.returns-in_err-header
returns-in_err-header g c =
    let p = err_from_is_err_and c.from_residual.result c.from_residual.ensures.1 in
    let fresh = c.new-reader.ensures in
    let r = c.in_err-header.ensures.first (ap (λ (x : DemoReader). x.fault) fresh) (ap (λ (x : DemoReader). x.header) fresh) in
    rw (p.1, p.2) (ends_before _ c.requires.out (ap (λ (x : DemoReader). x.limit) fresh) (ap (λ (x : DemoReader). x.taken) fresh) _ r)
