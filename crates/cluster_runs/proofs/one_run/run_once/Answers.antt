use Rattle.std.proofs.Common.{ap, subst, sym}
use Rattle.cluster_runs.specs.Runs.{IsPaceOf}
use Rattle.cluster_runs.proofs.one_run.run_once.Goals as goal

pub returns : goal.returns
returns g c =
    let port = c.in_ok-port.ensures in
    let watch = c.new-watch.ensures in (
      c.in_ok-port.port,
      c.new-watch.result,
      record {
        links = port.links;
        book = port.setup.0;
        survey = port.setup.2;
        timeout = port.setup.1;
        waits_for_news = port.setup.3;
        open_before = port.open;
        log = ap (λ x. x.log) watch.run;
        counts = ap (λ x. x.counts) watch.run;
        moves = watch.moves;
        pace = subst (λ p. IsPaceOf c.args.words.now.keys_per_second p) (sym watch.pace) c.pace_of.ensures;
      },
      c.in_ok-ran.ensures,
    )
