use Rattle.collector.proofs.Inserting.{inserted_is}
use Rattle.collector.proofs.adding.insert.Goals as goal

pub returns : goal.returns
returns g c = inserted_is c.args.rows.now c.args.at c.args.n c.args.row c.requires.0 c.requires.1 c.rotate_right.new.self c.rotate_right.ensures.after
