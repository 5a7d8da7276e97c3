-- `ends_console::fields::read_console` meets its contract, by what its parts say.
use mathlib.Core.Path.{sym, ◌∙◌}
use borrow.Author.Rules.{rules}
use Rattle.ends_console.proofs.FieldsRead.{whole, unsound, unfit, numbered}
use Rattle.ends_console.proofs.fields.read_console.Goals as goal

pub returns-then-not-is_sound : goal.returns-then-not-is_sound
returns-then-not-is_sound c = numbered c.args.c (unsound c.args.c c.is_sound.ensures c.if-not-is_sound.true)

pub returns-in_err-mode : goal.returns-in_err-mode
returns-in_err-mode c =
    numbered c.args.c (c.from_residual.ensures ∙ unfit c.args.c c.is_sound.ensures c.if-not-is_sound.false (sym c.in_err-mode.was ∙ c.read_mode.ensures))

pub returns-then-not-own_or_none : goal.returns-then-not-own_or_none
returns-then-not-own_or_none c = search (numbered, whole, rules)

pub returns : goal.returns
returns c = search (numbered, whole, rules)
