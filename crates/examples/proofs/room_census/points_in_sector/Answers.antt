use Rattle.map_tree.specs.PlainCount.{plain_count}
use Rattle.examples.proofs.room_census.points_in_sector.Goals as goal

pub returns : goal.returns
returns g c = λ sector_at tells.
    c.points_of.ensures (λ s. plain_count sector_at s c.args.rect) (c.in_ok-counts.ensures.counted sector_at tells)
