-- `start` meets its contract: out of shape it refuses, else it has kept the path and asks for block 0.
use native.Mathlib.Omega.{arith}
use mathlib.Core.Path.{◌≡◌, refl, sym, ◌∙◌}
use mathlib.Core.Logic.{inl, inr}
use lib.ListN.{length}
use Rattle.reader_state.specs.Resume.{Memory, memory}
use Rattle.reader_state.specs.Fits.{Sized, EndIn}
use Rattle.field.proofs.Choosing.{clash}
use Rattle.asking.specs.Pull.{read_ask}
use Rattle.reader_state.specs.Decision.{refuses_at}
use Rattle.reader.specs.Reading.{memory_in, resume, with_numbers, Kept, Started}
use Rattle.reader.proofs.Starting.{start_resumes, start_fits, starts_with, none_rise, refusal_left, refused_start, path_room}
use Rattle.reader.proofs.start.Goals as goal

pub returns-then-not-in_shape : goal.returns-then-not-in_shape
returns-then-not-in_shape c =
    let shape = sym c.in_shape.ensures ∙ c.if-not-in_shape.true in
    let b = c.blank-t.result in
    let refusal = with_numbers b (refuses_at b.at 4) in
    let left : resume refusal ≡ read_ask c.args.card_blocks c.args.path.now c.args.index =
    refusal_left b.at (memory_in b) _ 4 ∙ sym (refused_start c.args.card_blocks c.args.path.now c.args.index shape)
    in
    let ended : EndIn (refuses_at b.at 4) = record { bytes = omega arith; counts = λ z. (refl, refl) } in
    let kept : Kept refusal = record {
      fit = ended;
      path = rw c.blank-t.ensures.0.path (omega arith);
      form = inl (refl, refl);
      nodes_rise = none_rise b.nodes refl;
      blocks_rise = none_rise b.blocks refl;
    } in
    let started : Started c.args.card_blocks c.args.path.now c.args.index refusal =
    record { left = left; kept = kept; given = λ is. absurd (clash is shape) }
    in
    rw c.refuses_at-t.ensures started

pub keep_path-requires : goal.keep_path-requires
keep_path-requires c =
    path_room c.args.card_blocks c.args.path.now (sym c.in_shape.ensures ∙ c.if-not-in_shape.false)

pub overflow_cast-t : goal.overflow_cast-t
overflow_cast-t c =
    let room = path_room c.args.card_blocks c.args.path.now (sym c.in_shape.ensures ∙ c.if-not-in_shape.false) in
    omega (arith, room)

pub returns : goal.returns
returns c =
    let path = c.args.path.now in
    let b = c.blank-t.result in
    let given = c.blank-t.ensures in
    let shape = sym c.in_shape.ensures ∙ c.if-not-in_shape.false in
    let starts = starts_with (length path) given.0 in
    let m : Memory = memory c.keep_path.new.into b.first b.held b.journal in
    let sized : Sized m =
    record { path = c.keep_path.ensures.1; first = given.2; held = given.3; journal = given.4 }
    in
    let front = c.keep_path.ensures.0 in
    let fit = start_fits starts m front sized (path_room c.args.card_blocks path shape) in
    record {
      left = start_resumes starts m front b.nodes b.blocks shape;
      kept = record {
        fit = fit;
        path = path_room c.args.card_blocks path shape;
        form = inr starts.asked;
        nodes_rise = none_rise b.nodes starts.no_nodes;
        blocks_rise = none_rise b.blocks starts.no_blocks;
      };
      given = λ is. front;
    }
