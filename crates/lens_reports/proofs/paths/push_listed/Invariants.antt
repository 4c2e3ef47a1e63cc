use Rattle.std.proofs.Common.{◌≡◌, ◌++◌, ◌==◌, not, filter, length, map}
use Rattle.lens_reports.proofs.paths.push_listed.Given as goal

abbrev pub invariant-loop-path : goal.invariant-loop-path
invariant-loop-path l = map (λ path. path.now) l.paths.items
    ≡ map (λ path. path.now) l.fn.paths.items ++ filter (λ path. not (length path == 0)) (map (λ path. path.now) l.yielded)
