use Rattle.std.proofs.Common.{refl, ◌∙◌, sym, subst}
use Rattle.usb_set.specs.inside.Reading.{Reading}
use Rattle.usb_set.specs.inside.Stepping.{IsStart}
use Rattle.usb_set.proofs.Stepping.{begun, begun_start, grown}
use Rattle.usb_set.proofs.partial.Partial.grow.Goals.{in-Some-1, in-None-1}
use Rattle.usb_set.proofs.partial.Partial.grow.Goals as goal

pub returns-in_ok-c-in-None-clause-ok : goal.returns-in_ok-c-in-None-clause-ok
returns-in_ok-c-in-None-clause-ok c =
    let is = begun c.args.self.now c.self.inside.tree c.self.inside.total c.self.inside.place c.args.item.now c.in_ok-c-in-None.c c.declared_total-self-inside.result _ c.self.view_is c.in-None.is c.in_ok-c-in-None.ensures c.declared_total-self-inside.ensures.value refl in
    elim c.match-self-2.branch [ in-Some-1 w ↦ w.self-is ∙ is | in-None-1 w ↦ w.self-is ∙ is ]

pub returns-in_ok-attach-in-Some-clause-ok : goal.returns-in_ok-attach-in-Some-clause-ok
returns-in_ok-attach-in-Some-clause-ok c =
    grown c.args.self.now c.self.inside.tree c.self.inside.total c.self.inside.place c.in-Some.c c.attach.new.c c.args.item.now c.self.view_is c.requires.work c.in-Some.is c.in_ok-attach-in-Some.ensures.ok

pub returns-in_ok-c-in-None-clause-start : goal.returns-in_ok-c-in-None-clause-start
returns-in_ok-c-in-None-clause-start c =
    let is = begun_start c.args.self.now c.self.inside.tree c.self.inside.total c.self.inside.place c.args.item.now c.in_ok-c-in-None.c c.declared_total-self-inside.result _ c.self.view_is c.in-None.is c.requires.fine c.requires.whole
    c.declared_total-self-inside.ensures.value c.declared_total-self-inside.ensures.bound refl in
    let P : Reading → Type 0 = λ r. IsStart r in
    elim c.match-self-2.branch [ in-Some-1 w ↦ subst P (sym w.self-is) is | in-None-1 w ↦ subst P (sym w.self-is) is ]
