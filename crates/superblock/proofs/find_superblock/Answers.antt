use native.Mathlib.Omega.{arith}
use mathlib.Core.Path.{◌≡◌, ◌∙◌, ap, sym}
use Rattle.field.specs.Card.{card_of}
use Rattle.field.specs.Choice.{choose}
use Rattle.field.proofs.Blocks.{length_of_block}
use Rattle.std.specs.Prelude.{Some, None}
use Rattle.superblock.specs.Superblock.{copy_in, superblock_of, copy_passes}
use Rattle.superblock.specs.Areas.{accepted}
use Rattle.superblock.proofs.Finding.{passed, failed, passed_fits, found_first, found_second, found_none}
use Rattle.superblock.proofs.find_superblock.Goals as goal
use Rattle.superblock.proofs.find_superblock.Goals.{After-try_copy-first, After-try_copy-second}

first_tried : (k : After-try_copy-first) → let card = (card_of k.args.image.bytes.now) in
    k.try_copy-first.result ≡ choose (copy_passes card 0) (Some (superblock_of (copy_in card 0))) None
first_tried k = rw (k.block_at.ensures, k.image_blocks-blocks.ensures) at k.try_copy-first.ensures

second_tried : (k : After-try_copy-second) → let card = (card_of k.args.image.bytes.now) in
    k.try_copy-second.result ≡ choose (copy_passes card 1) (Some (superblock_of (copy_in card 1))) None
second_tried k =
    rw (k.block_at-in-None.ensures, k.image_blocks-blocks.ensures) at k.try_copy-second.ensures

pub try_copy-first-requires : goal.try_copy-first-requires
try_copy-first-requires c =
    length_of_block _ 0 (omega (arith, c.args.image.in_shape.least)) c.block_at.ensures

pub accept-requires : goal.accept-requires
accept-requires c =
    passed_fits (card_of c.args.image.bytes.now).blocks (copy_in (card_of c.args.image.bytes.now) 0)
    (first_tried (goal.at.accept-requires c).After-try_copy-first) c.args.image.in_shape.most c.in-Some.is

pub try_copy-second-requires : goal.try_copy-second-requires
try_copy-second-requires c =
    length_of_block _ 1 (omega (arith, c.args.image.in_shape.least)) c.block_at-in-None.ensures

pub accept-requires-in-Some-second : goal.accept-requires-in-Some-second
accept-requires-in-Some-second c =
    passed_fits (card_of c.args.image.bytes.now).blocks (copy_in (card_of c.args.image.bytes.now) 1)
    (second_tried (goal.at.accept-requires-in-Some-second c).After-try_copy-second) c.args.image.in_shape.most c.in-Some-second.is

pub returns-in-Some : goal.returns-in-Some
returns-in-Some c =
    let card = (card_of c.args.image.bytes.now) in
    let first = passed card.blocks (copy_in card 0) (first_tried (goal.at.returns-in-Some c).After-try_copy-first) c.in-Some.is in
    c.accept.ensures ∙ ap accepted first.1 ∙ sym (found_first card first.0)

pub returns-in-Some-second : goal.returns-in-Some-second
returns-in-Some-second c =
    let card = (card_of c.args.image.bytes.now) in
    let first = failed card.blocks (copy_in card 0) (first_tried (goal.at.returns-in-Some-second c).After-try_copy-first) c.in-None.is in
    let second = passed card.blocks (copy_in card 1) (second_tried (goal.at.returns-in-Some-second c).After-try_copy-second) c.in-Some-second.is in
    c.accept-in-Some-second.ensures ∙ ap accepted second.1 ∙ sym (found_second card first second.0)

pub returns-in-None-second : goal.returns-in-None-second
returns-in-None-second c =
    let card = (card_of c.args.image.bytes.now) in
    let first = failed card.blocks (copy_in card 0) (first_tried (goal.at.returns-in-None-second c).After-try_copy-first) c.in-None.is in
    let second = failed card.blocks (copy_in card 1) (second_tried (goal.at.returns-in-None-second c).After-try_copy-second) c.in-None-second.is in
    sym (found_none card first second)
