-- `call_of` meets its contract. Assumes nothing.
use mathlib.Core.Path.{◌≡◌, ap, ◌∙◌}
use native.Mathlib.Omega.{arith}
use Rattle.limits.specs.Limits.{call_clear, call_add_process, call_add_thread, call_end_process, call_end_thread}
use Rattle.limits.specs.Limits.{call_kill}
use Rattle.limits.specs.Limits.{call_sigqueue, call_sigaction, call_sigmask, call_sigpending, call_look, call_who}
use Rattle.limits.specs.Limits.{call_take}
use Rattle.limits.specs.Limits.{call_sigreturn}
use Rattle.rules.specs.Types.{add_process, sigaction, sigmask}
use Rattle.calls.specs.Calls.{placing_of, sending_of, setting_of, asking_of, call_of}
use Rattle.boundary.specs.Boundary.{where_given, calls_of, numbered}
use Rattle.boundary.proofs.Numbers.{at-number, call-bounds, past}
use Rattle.boundary.proofs.call_of.Goals as goal

pub returns-in-1 : goal.returns-in-1
unfolding call_of placing_of sending_of setting_of asking_of numbered calls_of
returns-in-1 c =
    let a = c.args in
    at-number a.number call_clear a.g
    c.in-1.is

pub returns-in-2 : goal.returns-in-2
unfolding call_of placing_of sending_of setting_of asking_of numbered calls_of
returns-in-2 c =
    let a = c.args in
    ap add_process c.new_process.ensures ∙ at-number a.number call_add_process
    a.g c.in-2.is

pub returns-in-3 : goal.returns-in-3
unfolding call_of placing_of sending_of setting_of asking_of numbered calls_of
returns-in-3 c =
    let a = c.args in
    at-number a.number call_add_thread a.g
    c.in-3.is

pub returns-in-4 : goal.returns-in-4
unfolding call_of placing_of sending_of setting_of asking_of numbered calls_of
returns-in-4 c =
    let a = c.args in
    at-number a.number call_end_process a.g
    c.in-4.is

pub returns-in-5 : goal.returns-in-5
unfolding call_of placing_of sending_of setting_of asking_of numbered calls_of
returns-in-5 c =
    let a = c.args in
    at-number a.number call_end_thread a.g
    c.in-5.is

pub returns-in-6 : goal.returns-in-6
unfolding call_of placing_of sending_of setting_of asking_of numbered calls_of
returns-in-6 c =
    let a = c.args in
    at-number a.number call_kill a.g
    c.in-6.is

pub returns-in-7 : goal.returns-in-7
unfolding call_of placing_of sending_of setting_of asking_of numbered calls_of
returns-in-7 c =
    let a = c.args in
    at-number a.number call_sigqueue a.g
    c.in-7.is

pub returns-in-8 : goal.returns-in-8
unfolding call_of placing_of sending_of setting_of asking_of numbered calls_of
returns-in-8 c =
    let a = c.args in
    ap (sigaction a.g.a a.g.b) (c.where_given.ensures ∙ ap (where_given a.g.c) c.action.ensures)
    ∙ at-number a.number call_sigaction a.g
    c.in-8.is

pub returns-in-9 : goal.returns-in-9
unfolding call_of placing_of sending_of setting_of asking_of numbered calls_of
returns-in-9 c =
    let a = c.args in
    ap (sigmask a.g.a a.g.b) c.where_given-in-9.ensures
    ∙ at-number a.number call_sigmask a.g
    c.in-9.is

pub returns-in-10 : goal.returns-in-10
unfolding call_of placing_of sending_of setting_of asking_of numbered calls_of
returns-in-10 c =
    let a = c.args in
    at-number a.number call_sigpending a.g
    c.in-10.is

pub returns-in-11 : goal.returns-in-11
unfolding call_of placing_of sending_of setting_of asking_of numbered calls_of
returns-in-11 c =
    let a = c.args in
    at-number a.number call_look a.g
    c.in-11.is

pub returns-in-12 : goal.returns-in-12
unfolding call_of placing_of sending_of setting_of asking_of numbered calls_of
returns-in-12 c =
    let a = c.args in
    at-number a.number call_who a.g
    c.in-12.is

pub returns-in-13 : goal.returns-in-13
unfolding call_of placing_of sending_of setting_of asking_of numbered calls_of
returns-in-13 c =
    let a = c.args in
    at-number a.number call_take a.g
    c.in-13.is

pub returns-in_default : goal.returns-in_default
unfolding call_of placing_of sending_of setting_of asking_of numbered calls_of
returns-in_default c =
    let a = c.args in
    let b = call-bounds a.number c.requires in
    let last : a.number ≡ call_sigreturn =
    omega (arith, b.1, past a.number call_take c.in_default.in_default-own.rest b.0) in
    at-number a.number call_sigreturn a.g last
