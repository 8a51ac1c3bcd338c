-- L1 to L13 hold, by computation (document 01: "proved together as a table, by one statement on the step definitions"), and so do plain
-- Saiga's counts.
use mathlib.Core.Path.{◌≡◌, refl}
use Prim.Native.Nat.{ℕ, zero, suc}
use Rattle.saiga.specs.Values.{base_of, function_of, function_type, holding_type, type_of, truth, number, node_of, equal_z, exact, apply_function, summed, apply_holding, apply, of_bytes, to_bytes, signed, unsigned, is_word, of_word, to_word, type_code, decimal, same_value}
use Rattle.saiga.specs.Expressions.{Expr, head_of, ◌followed_by◌, whenever, read_operand, read_after, read_expr, exactly, read_whole}
use Rattle.saiga.specs.Types.{same_base, same_ty, given, infer_if, infer_application, infer, has_type}
use Rattle.saiga.specs.Gaps.{gap_at, gap_from, first_gap}
use Rattle.saiga.specs.Sheet.{figure_for, rule_for, forward_for, rule_scope, forward_scope, question_scope, forwarded, ruled, figured, definition, whole_expr, definition_expr, context, command_of, require, read_attribute, read_node, read_figure, require_piece, read_rule, read_forward, read_end, read_command, read_next, is_defined, complete, read_commands, check_sheet}
use Rattle.saiga.specs.Terms.{put}
use Rattle.saiga.specs.Plain.{Plain, steps_to, step_part, plain_application, plain_attribute, plain_step, plain_at, EndsWithValue, EndsWithout, RunsForEver}
use Rattle.saiga.specs.Caching.{same_occurrence, kept, is_kept, write, due_part, count, cond_rule, app_app, kept_or, is_open, circular, too_deep, attr_app, due, due_at, run}
use Rattle.saiga.specs.Tally.{trace, in_row, steps_in, rows_from, tally}
use Rattle.saiga.specs.Store.{field_bytes, fields_of, entry_fields, entry_bytes, entry_of, is_entry, read_entries, check_store, entries_bytes, left_store}
use Rattle.saiga.specs.Ask.{refusal, of_base_type, check_type, check_question, asked, reason_number, ended_answer, outcome, run_question, trace_question, ◌then_check◌, check_budget, check_call, answered, ask}
use Rattle.saiga.specs.Calls.{leaves, after_calls, answers}
use Rattle.saiga.specs.TableL.{bring, TableL, Plainly, PlainL}

-- The definitions that a table computes with: who unfolds this one unfolds them.
unfoldable pub definitions : Unit {0}
unfolding base_of function_of function_type holding_type type_of truth number node_of equal_z exact apply_function summed apply_holding apply of_bytes to_bytes signed unsigned is_word of_word to_word type_code decimal same_value head_of ◌followed_by◌ whenever read_operand read_after read_expr exactly read_whole same_base same_ty given infer_if infer_application infer has_type figure_for rule_for forward_for rule_scope forward_scope question_scope forwarded ruled figured definition whole_expr definition_expr context command_of require read_attribute read_node read_figure require_piece read_rule read_forward read_end read_command read_next is_defined gap_at gap_from first_gap complete read_commands check_sheet put same_occurrence kept is_kept write due_part count cond_rule app_app kept_or is_open circular too_deep attr_app due due_at run trace in_row steps_in rows_from tally field_bytes fields_of entry_fields entry_bytes entry_of is_entry read_entries check_store entries_bytes left_store refusal of_base_type check_type check_question asked reason_number ended_answer outcome run_question trace_question ◌then_check◌ check_budget check_call answered ask leaves after_calls answers step_part plain_application plain_attribute plain_step plain_at EndsWithValue EndsWithout bring
definitions = tt

pub table-L : TableL
unfolding definitions TableL
table-L = (refl, refl, refl)

-- Where a step leads to an expression, and one from there back, plain Saiga runs for ever. The two may be one.
pub turns : (context : ℕ → ℕ → Expr) (t u : Plain) → plain_step context t ≡ steps_to u → plain_step context u ≡ steps_to t → RunsForEver context t
unfolding RunsForEver plain_at
turns context t u there back zero = (t, refl)
turns context t u there back (suc n) = rw (there, plain_at) (turns context u t back there n)

pub plain-L : PlainL
unfolding definitions Plainly PlainL
plain-L =
    ((_, _, refl, refl, refl), (_, _, refl, refl, refl), (_, _, refl, refl, (_, refl, refl)), (_, _, refl, refl, turns _ _ _ refl refl))
