-- Whether the first pack passed is told to the second.
use Rattle.ask_open.proofs.Going.{last_to_second}
use Rattle.ask_open.proofs.Knowing.{maybe_passed}
use Rattle.ask_open.proofs.one_last_came.Goals as goal

pub returns : goal.returns
returns c =
    let first = c.args.first.now in
    let bytes = c.args.bytes.now in
    record {
      result_value = λ k blocks second.
          last_to_second k blocks first second bytes c.args.v c.second_pack.ensures c.checkpoint_of-cp.ensures
          c.last_passes-passed.ensures;
      by_index = λ second. (c.requires.areas_fit.0, maybe_passed first c.last_passes-passed.result c.requires.areas_fit.1);
    }
