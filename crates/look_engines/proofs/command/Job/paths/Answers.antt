use Rattle.std.proofs.Common.{◌≡◌, ◌-◌, string_bytes, map, take, drop, length, ap, sym, ◌∙◌, arith}
use Rattle.std.proofs.lemmas.List.{drop-map, drop_min, length-drop, take_all}
use Rattle.look_engines.proofs.command.Job.paths.Goals as goal

pub returns : goal.returns
returns g c =
    let words = c.args.words.now in
    let long = length-drop c.min.result words in
    let whole : take (length words - c.min.result) (drop c.min.result words) ≡ drop c.min.result words = take_all _ _ (omega arith) in
    ap (map string_bytes) (whole ∙ ap (λ n. drop n words) c.min.ensures ∙ drop_min c.args.self.first words)
    ∙ sym (drop-map string_bytes c.args.self.first words)
