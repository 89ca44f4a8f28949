-- What a watch keeps of a run.
use Rattle.std.specs.Prelude.{◌≡◌}
use Rattle.server_runs.specs.declared.watch.Watch as watch

-- the run is as it was, and so are its pace and its moves
pub record IsAside {S L : Type 0} (w w' : watch.Watch S L) : Type 0 where
  pub run : w'.run ≡ w.run
  pub pace : w'.pace ≡ w.pace
  pub moves : w'.moves ≡ w.moves

-- the log alone may have changed
pub record Keeps {S L : Type 0} (w w' : watch.Watch S L) : Type 0 where
  pub kind : w'.run.kind ≡ w.run.kind
  pub counts : w'.run.counts ≡ w.run.counts
  pub nodes : w'.run.nodes ≡ w.run.nodes
  pub pace : w'.pace ≡ w.pace
  pub moves : w'.moves ≡ w.moves
