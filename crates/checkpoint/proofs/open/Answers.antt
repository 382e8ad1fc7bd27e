use Rattle.std.proofs.Common.{◌≡◌, sym, ap, ◌∙◌}
use Rattle.std.proofs.lemmas.Result.{err_from_is_err_and}
use Rattle.superblock.specs.Areas.{found, At}
use Rattle.superblock.specs.Search.{found_in}
use Rattle.superblock.specs.Shaped.{shaped_card}
use Rattle.superblock.proofs.Finding.{areas_in_lem}
use Rattle.checkpoint.specs.OpenImage.{volume_read}
use Rattle.checkpoint.specs.Volume.{opened_image, Opened}
use Rattle.checkpoint.proofs.Ways.{tested_opens, tested_refuses, opened_at}
use Rattle.checkpoint.proofs.Inside.{image_volume}
use Rattle.checkpoint.proofs.open.Goals as goal
use Rattle.checkpoint.proofs.open.Goals.{In_ok-areas, In_ok-volume}

-- the areas that are found, and the volume
areas_found : (k : In_ok-areas) → found (shaped_card k.in_ok-shaped.shaped) ≡ At k.in_ok-areas.areas
areas_found k = sym k.find_superblock.ensures ∙ ap found_in k.in_ok-areas.was

volume_found : (k : In_ok-volume) → opened_image k.args.image.now ≡ Opened k.in_ok-volume.volume
volume_found k =
    let shaped = tested_opens k.args.image.now k.in_ok-shaped.was k.of.ensures in
    let areas = sym k.find_superblock.ensures ∙ ap found_in k.in_ok-areas.was in
    let read = sym k.open_areas.ensures ∙ ap volume_read k.in_ok-volume.was in
    shaped ∙ opened_at _ _ areas ∙ read

pub returns-in_err-shaped-clause-opening : goal.returns-in_err-shaped-clause-opening
returns-in_err-shaped-clause-opening c =
    let p = err_from_is_err_and c.from_residual.result c.from_residual.ensures.1 in
    rw (p.1, p.2) (sym (tested_refuses c.args.image.now c.in_err-shaped.was c.of.ensures))

pub open_areas-requires : goal.open_areas-requires
open_areas-requires c =
    record { areas_in = areas_in_lem _ _ (areas_found (goal.at.open_areas-requires c).In_ok-areas) }

pub returns-in_err-areas-clause-opening : goal.returns-in_err-areas-clause-opening
returns-in_err-areas-clause-opening c =
    let p = err_from_is_err_and c.from_residual-in_err-areas.result c.from_residual-in_err-areas.ensures.1 in
    let shaped = tested_opens c.args.image.now c.in_ok-shaped.was c.of.ensures in
    let refused = sym c.find_superblock.ensures ∙ ap found_in c.in_err-areas.was in
    rw (p.1, p.2) (sym (shaped ∙ opened_at _ _ refused))

pub returns-in_err-volume-clause-opening : goal.returns-in_err-volume-clause-opening
returns-in_err-volume-clause-opening c =
    let p = err_from_is_err_and c.from_residual-in_err-volume.result c.from_residual-in_err-volume.ensures.1 in
    let shaped = tested_opens c.args.image.now c.in_ok-shaped.was c.of.ensures in
    let areas = sym c.find_superblock.ensures ∙ ap found_in c.in_ok-areas.was in
    let refused = sym c.open_areas.ensures ∙ ap volume_read c.in_err-volume.was in
    rw (p.1, p.2) (sym (shaped ∙ opened_at _ _ areas ∙ refused))

pub invariant_of-result : goal.invariant_of-result
invariant_of-result c =
    record { volume_in = image_volume _ _ (volume_found c) }

pub returns-clause-opening : goal.returns-clause-opening
returns-clause-opening c = sym (volume_found (goal.at.returns-clause-opening c).In_ok-volume)
