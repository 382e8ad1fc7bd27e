-- `scan` meets its contract: what the scan of a part comes to is what the slots of its block do.
use Rattle.ask_path.proofs.Directories.{part_scanned}
use Rattle.ask_path.proofs.scan.Goals as goal

pub returns : goal.returns
returns c =
    record {
      value = part_scanned _ _ _ _ c.args.inline c.slots_of.ensures.0 c.slots_of.ensures.1 c.scan_slots.ensures.name_value.0;
      stop_value = c.scan_slots.ensures.stop_value;
    }
