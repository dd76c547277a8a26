-- What a worked case opens: a declaration that unfolds `computing` computes with every rule.
use Rattle.lists.specs.Lists.{all, any, count, find, first, keep, leading, drop_first, change, replace_first, pairs}
use Rattle.lists.specs.Lists.{pairs_where, sum, range, padded}
use Rattle.sigset.specs.Set.{has, sum_of, set_of, of_signal, union, without, intersect, unmaskable, maskable, lowest_in}
use Rattle.sigset.specs.Set.{lowest_of, lowest}
use Rattle.rules.specs.Signals.{is_signal, standard, ignoring, stop_signal, outcome, ignored}
use Rattle.rules.specs.Types.{told}
use Rattle.rules.specs.View.{is_process, is_thread, belongs_to, same_queue, in_queue, action_of, live_process}
use Rattle.rules.specs.View.{live_thread, the_process, the_thread, thread_action, pending_in, pending_for}
use Rattle.rules.specs.Store.{cleared, in_use, used, records_for, mark_in, queued_in, view, on_slots, apply, apply_all}
use Rattle.rules.specs.Sound.{actions_long, lengths_right, is_default, zero_process, zero_thread, free_zero, good_id}
use Rattle.rules.specs.Sound.{ids_in_range, ids_distinct, good_user, fields_fit, fields_in_range, belongs, has_thread}
use Rattle.rules.specs.Sound.{threads_owned, processes_have_threads, unmasked, action_unmasked, process_unmasked}
use Rattle.rules.specs.Sound.{thread_unmasked, nothing_unmaskable, kill_stop_default, unmaskable_default, flags_known}
use Rattle.rules.specs.Sound.{process_flags_known, all_flags_known, is_zero, rest_zero, nameable, names_live}
use Rattle.rules.specs.Sound.{aimed_at_thread, aimed_at_process, records_laid_out, limit_kept, is_standard, not_twice}
use Rattle.rules.specs.Sound.{not_marked_too, pending_once, record_not_ignored, marks_not_ignored, nothing_ignored}
use Rattle.rules.specs.Sound.{sound}
use Rattle.rules.specs.Sending.{may_signal, absorbs, generation, info_of, job_control, send_changes, send_answer}
use Rattle.rules.specs.Sending.{needs_record}
use Rattle.rules.specs.Actions.{has_flag, stored, store_changes, action_changes, new_mask, mask_changes}
use Rattle.rules.specs.Actions.{blocked_pending}
use Rattle.rules.specs.Taking.{is_stopped, can_take_signal, next_signal, next_queue, next_in, next, can_take_some}
use Rattle.rules.specs.Taking.{who_answer, taker, mark_info, handler_mask, resets, reset, reset_changes}
use Rattle.rules.specs.Taking.{outcome_changes, outcome_answer, deliver, delivered, take_changes, take_answer}
use Rattle.rules.specs.Adding.{added_process, add_process_changes, add_thread_changes, other_thread, end_thread_changes}
use Rattle.rules.specs.Refusals.{refusal, over_last, unstorable, bad_action, bad_way, bad_id, no_process_live}
use Rattle.rules.specs.Refusals.{no_thread_live, bad_target, may_not, no_process_place, no_thread_place, no_room, rows}
use Rattle.rules.specs.Refusals.{is_clear, fault, table, refusal_of}
use Rattle.rules.specs.Machine.{is_u32, is_u64, machine_action, machine_set, machine}
use Rattle.rules.specs.Calls.{send, changes, reply, stages, run_stages, finish, step, run, is_refused, slot_of}
use Rattle.rules.specs.Calls.{part_of, look_part}

unfoldable pub computing : Unit {0}
unfolding told all any count find first keep leading drop_first change replace_first pairs pairs_where sum range padded
    has sum_of set_of of_signal union without intersect unmaskable maskable lowest_in lowest_of lowest is_signal
    standard
    ignoring stop_signal outcome ignored is_process is_thread belongs_to same_queue in_queue action_of live_process
    live_thread
    the_process the_thread thread_action pending_in pending_for cleared in_use used records_for mark_in queued_in view
    on_slots
    apply apply_all actions_long lengths_right is_default zero_process zero_thread free_zero good_id ids_in_range
    ids_distinct
    good_user fields_fit fields_in_range belongs has_thread threads_owned processes_have_threads unmasked
    action_unmasked
    process_unmasked thread_unmasked nothing_unmaskable kill_stop_default unmaskable_default flags_known
    process_flags_known
    all_flags_known is_zero rest_zero nameable names_live aimed_at_thread aimed_at_process records_laid_out limit_kept
    is_standard
    not_twice not_marked_too pending_once record_not_ignored marks_not_ignored nothing_ignored sound may_signal absorbs
    generation
    info_of job_control send_changes send_answer needs_record has_flag stored store_changes action_changes new_mask
    mask_changes
    blocked_pending is_stopped can_take_signal next_signal next_queue next_in next can_take_some who_answer taker
    mark_info
    handler_mask resets reset reset_changes outcome_changes outcome_answer deliver delivered take_changes take_answer
    added_process add_process_changes add_thread_changes other_thread end_thread_changes refusal over_last unstorable
    bad_action
    bad_way bad_id no_process_live no_thread_live bad_target may_not no_process_place no_thread_place no_room rows
    is_clear fault
    table refusal_of send changes reply stages run_stages finish step run is_refused slot_of part_of look_part is_u32
    is_u64
    machine_action machine_set machine
computing = tt
