-- Each promise of the crate determines its answer.
use mathlib.Core.Path.{sym, ◌∙◌}
use Rattle.ground.proofs.Promise.{Determined}
use Rattle.ends_controller.proofs.turns.offer_sent.Kinds as offer-sent-kinds
use Rattle.ends_controller.proofs.turns.offer_sent.Reads as offer-sent
use Rattle.ends_controller.proofs.turns.ok_sent.Kinds as ok-sent-kinds
use Rattle.ends_controller.proofs.turns.ok_sent.Reads as ok-sent
use Rattle.ends_controller.proofs.decides.decides.Kinds as decides-kinds
use Rattle.ends_controller.proofs.decides.decides.Reads as decides
use Rattle.ends_controller.proofs.acts.takes_what_came.Kinds as takes-what-came-kinds
use Rattle.ends_controller.proofs.acts.takes_what_came.Reads as takes-what-came
use Rattle.ends_controller.proofs.acts.goes_down.Kinds as goes-down-kinds
use Rattle.ends_controller.proofs.acts.goes_down.Reads as goes-down
use Rattle.ends_controller.proofs.acts.comes_back.Kinds as comes-back-kinds
use Rattle.ends_controller.proofs.acts.comes_back.Reads as comes-back
use Rattle.ends_controller.proofs.acts.is_unknown.Kinds as is-unknown-kinds
use Rattle.ends_controller.proofs.acts.is_unknown.Reads as is-unknown
use Rattle.ends_controller.proofs.acts.take_refusal.Kinds as take-refusal-kinds
use Rattle.ends_controller.proofs.acts.take_refusal.Reads as take-refusal
use Rattle.ends_controller.proofs.fields.read_controller.Kinds as read-controller-kinds
use Rattle.ends_controller.proofs.fields.read_controller.Reads as read-controller
use Rattle.ends_controller.proofs.fields.controller_of.Kinds as controller-of-kinds
use Rattle.ends_controller.proofs.fields.controller_of.Reads as controller-of
use Rattle.ends_controller.proofs.fields.fresh_controller.Kinds as fresh-controller-kinds
use Rattle.ends_controller.proofs.fields.fresh_controller.Reads as fresh-controller
use Rattle.ends_controller.proofs.fields.downed_controller.Kinds as downed-controller-kinds
use Rattle.ends_controller.proofs.fields.downed_controller.Reads as downed-controller

pub offer_sent_determined : Determined offer-sent-kinds.ps offer-sent-kinds.r offer-sent.Post
offer_sent_determined κs a x y s t p q = p ∙ sym q

pub ok_sent_determined : Determined ok-sent-kinds.ps ok-sent-kinds.r ok-sent.Post
ok_sent_determined κs a x y s t p q = p ∙ sym q

pub decides_determined : Determined decides-kinds.ps decides-kinds.r decides.Post
decides_determined κs a x y s t p q = p ∙ sym q

pub takes_what_came_determined : Determined takes-what-came-kinds.ps takes-what-came-kinds.r takes-what-came.Post
takes_what_came_determined κs a x y s t p q = p ∙ sym q

pub goes_down_determined : Determined goes-down-kinds.ps goes-down-kinds.r goes-down.Post
goes_down_determined κs a x y s t p q = p ∙ sym q

pub comes_back_determined : Determined comes-back-kinds.ps comes-back-kinds.r comes-back.Post
comes_back_determined κs a x y s t p q = p ∙ sym q

pub is_unknown_determined : Determined is-unknown-kinds.ps is-unknown-kinds.r is-unknown.Post
is_unknown_determined κs a x y s t p q = p ∙ sym q

pub take_refusal_determined : Determined take-refusal-kinds.ps take-refusal-kinds.r take-refusal.Post
take_refusal_determined κs a x y s t p q = p ∙ sym q

pub read_controller_determined : Determined read-controller-kinds.ps read-controller-kinds.r read-controller.Post
read_controller_determined κs a x y s t p q = p.0 ∙ sym q.0

pub controller_of_determined : Determined controller-of-kinds.ps controller-of-kinds.r controller-of.Post
controller_of_determined κs a x y s t p q = p ∙ sym q

pub fresh_controller_determined : Determined fresh-controller-kinds.ps fresh-controller-kinds.r fresh-controller.Post
fresh_controller_determined κs a x y s t p q = p ∙ sym q

pub downed_controller_determined : Determined downed-controller-kinds.ps downed-controller-kinds.r downed-controller.Post
downed_controller_determined κs a x y s t p q = p ∙ sym q
