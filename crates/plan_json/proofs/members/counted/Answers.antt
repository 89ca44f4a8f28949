use Rattle.plan_json.proofs.Sizes.{count_few}
use Rattle.plan_json.proofs.members.counted.Goals as goal

pub returns-clause-few : goal.returns-clause-few
returns-clause-few c = rw c.from.ensures (count_few c.args.number c.ranges.number.fits)
