-- The worked cases, computed.
use Rattle.std.proofs.Common.{refl}
use Rattle.law.specs.Calls.{at_site, at_known_slot, at_known_item, begin_on, word_read, read_on, write_on, file_by, file_on, close_on, drop_on, deliver_by, deliver_on, trim_by, begin_call, read_call, write_call, file_call, close_call, drop_call, deliver_call, trim_call, restart_call, version_call, count_call, step_by, step}
use Rattle.law.specs.Cases.{WorkedCases}

-- with the calls unfolded, each case holds by computing both of its sides
pub worked-cases : WorkedCases
unfolding at_site at_known_slot at_known_item begin_on word_read read_on write_on file_by file_on close_on drop_on deliver_by deliver_on trim_by begin_call read_call write_call file_call close_call drop_call deliver_call trim_call restart_call version_call count_call step_by step
worked-cases =
    record {
      update_is_answered_in_order = refl;
      write_skew_is_refused = refl;
      blind_write_is_refused = refl;
      restart_loses_open_transactions = refl;
      old_snapshot_is_still_read = refl;
      filing_below_the_floor_is_refused = refl;
      early_trims_are_refused = refl;
      ninth_item_is_refused = refl;
      drop_frees_full_replica = refl;
      word_of_card = refl;
      word_of_negative_count = refl;
      readers_stand_at_their_snapshots = refl;
      readers_of_one_snapshot_stand_as_filed = refl;
    }
