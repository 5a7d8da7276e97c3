-- Each promise of the crate determines its answer.
use mathlib.Core.Path.{sym, ◌∙◌}
use Rattle.ground.proofs.Promise.{Determined}
use Rattle.ends_console.proofs.turns.needi_sent.Kinds as needi-sent-kinds
use Rattle.ends_console.proofs.turns.needi_sent.Reads as needi-sent
use Rattle.ends_console.proofs.turns.data_sent.Kinds as data-sent-kinds
use Rattle.ends_console.proofs.turns.data_sent.Reads as data-sent
use Rattle.ends_console.proofs.refusals.ack_refusal.Kinds as ack-refusal-kinds
use Rattle.ends_console.proofs.refusals.ack_refusal.Reads as ack-refusal
use Rattle.ends_console.proofs.ack.ack_use.Kinds as ack-use-kinds
use Rattle.ends_console.proofs.ack.ack_use.Reads as ack-use
use Rattle.ends_console.proofs.ack.shows.Kinds as shows-kinds
use Rattle.ends_console.proofs.ack.shows.Reads as shows
use Rattle.ends_console.proofs.decides.decides.Kinds as decides-kinds
use Rattle.ends_console.proofs.decides.decides.Reads as decides
use Rattle.ends_console.proofs.acts.puts.Kinds as puts-kinds
use Rattle.ends_console.proofs.acts.puts.Reads as puts
use Rattle.ends_console.proofs.acts.takes_what_came.Kinds as takes-what-came-kinds
use Rattle.ends_console.proofs.acts.takes_what_came.Reads as takes-what-came
use Rattle.ends_console.proofs.acts.goes_down.Kinds as goes-down-kinds
use Rattle.ends_console.proofs.acts.goes_down.Reads as goes-down
use Rattle.ends_console.proofs.acts.comes_back.Kinds as comes-back-kinds
use Rattle.ends_console.proofs.acts.comes_back.Reads as comes-back
use Rattle.ends_console.proofs.acts.put_refusal.Kinds as put-refusal-kinds
use Rattle.ends_console.proofs.acts.put_refusal.Reads as put-refusal
use Rattle.ends_console.proofs.fields.read_console.Kinds as read-console-kinds
use Rattle.ends_console.proofs.fields.read_console.Reads as read-console
use Rattle.ends_console.proofs.fields.console_of.Kinds as console-of-kinds
use Rattle.ends_console.proofs.fields.console_of.Reads as console-of
use Rattle.ends_console.proofs.fields.fresh_console.Kinds as fresh-console-kinds
use Rattle.ends_console.proofs.fields.fresh_console.Reads as fresh-console
use Rattle.ends_console.proofs.fields.downed_console.Kinds as downed-console-kinds
use Rattle.ends_console.proofs.fields.downed_console.Reads as downed-console

pub needi_sent_determined : Determined needi-sent-kinds.ps needi-sent-kinds.r needi-sent.Post
needi_sent_determined κs a x y s t p q = p ∙ sym q

pub data_sent_determined : Determined data-sent-kinds.ps data-sent-kinds.r data-sent.Post
data_sent_determined κs a x y s t p q = p ∙ sym q

pub ack_refusal_determined : Determined ack-refusal-kinds.ps ack-refusal-kinds.r ack-refusal.Post
ack_refusal_determined κs a x y s t p q = p ∙ sym q

pub ack_use_determined : Determined ack-use-kinds.ps ack-use-kinds.r ack-use.Post
ack_use_determined κs a x y s t p q = p ∙ sym q

pub shows_determined : Determined shows-kinds.ps shows-kinds.r shows.Post
shows_determined κs a x y s t p q = p ∙ sym q

pub decides_determined : Determined decides-kinds.ps decides-kinds.r decides.Post
decides_determined κs a x y s t p q = p ∙ sym q

pub puts_determined : Determined puts-kinds.ps puts-kinds.r puts.Post
puts_determined κs a x y s t p q = p ∙ sym q

pub takes_what_came_determined : Determined takes-what-came-kinds.ps takes-what-came-kinds.r takes-what-came.Post
takes_what_came_determined κs a x y s t p q = p ∙ sym q

pub goes_down_determined : Determined goes-down-kinds.ps goes-down-kinds.r goes-down.Post
goes_down_determined κs a x y s t p q = p ∙ sym q

pub comes_back_determined : Determined comes-back-kinds.ps comes-back-kinds.r comes-back.Post
comes_back_determined κs a x y s t p q = p ∙ sym q

pub put_refusal_determined : Determined put-refusal-kinds.ps put-refusal-kinds.r put-refusal.Post
put_refusal_determined κs a x y s t p q = p ∙ sym q

pub read_console_determined : Determined read-console-kinds.ps read-console-kinds.r read-console.Post
read_console_determined κs a x y s t p q = p.0 ∙ sym q.0

pub console_of_determined : Determined console-of-kinds.ps console-of-kinds.r console-of.Post
console_of_determined κs a x y s t p q = p ∙ sym q

pub fresh_console_determined : Determined fresh-console-kinds.ps fresh-console-kinds.r fresh-console.Post
fresh_console_determined κs a x y s t p q = p ∙ sym q

pub downed_console_determined : Determined downed-console-kinds.ps downed-console-kinds.r downed-console.Post
downed_console_determined κs a x y s t p q = p ∙ sym q
