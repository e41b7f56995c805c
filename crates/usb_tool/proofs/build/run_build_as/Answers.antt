use Rattle.std.proofs.Common.{subst, sym}
use Rattle.usb_listing.specs.declared.laws.TheConstants.{LISTING_LIMIT}
use Rattle.usb_tool.specs.Builds.{RefusesListing, TellsBuilt}
use Rattle.usb_tool.specs.Endings.{AppendsNone, ReadsAll}
use Rattle.usb_tool.proofs.Builds.{built_reported, not_built}
use Rattle.usb_tool.proofs.Inputs.{cut, report}
use Rattle.usb_tool.proofs.build.run_build_as.Goals as goal

pub returns-in_err-bytes-clause-err : goal.returns-in_err-bytes-clause-err
returns-in_err-bytes-clause-err g c =
    not_built c.args.building _ _ _ c.deref.result.now (subst (ReadsAll LISTING_LIMIT _ _) (sym c.deref.ensures.value) c.in_ok-text.ensures.all) c.in_err-bytes.field-0.0 _
    c.from_residual-in_err-bytes.ensures.1 c.in_err-bytes.ensures.err

pub returns-clause-built : goal.returns-clause-built
returns-clause-built g c =
    report AppendsNone (TellsBuilt c.args.building) LISTING_LIMIT _ _ c.deref.result.now (subst (ReadsAll LISTING_LIMIT _ _) (sym c.deref.ensures.value) c.in_ok-text.ensures.all) _ _
    (built_reported c.args.building c.deref.result.now c.in_ok-bytes.bytes.items c.in_ok-bytes.ensures.ok) _ _ _ c.put_bytes.ensures.ok

pub returns-clause-err : goal.returns-clause-err
returns-clause-err g c =
    cut AppendsNone (TellsBuilt c.args.building) LISTING_LIMIT _ _ c.deref.result.now (subst (ReadsAll LISTING_LIMIT _ _) (sym c.deref.ensures.value) c.in_ok-text.ensures.all) _ _
    (built_reported c.args.building c.deref.result.now c.in_ok-bytes.bytes.items c.in_ok-bytes.ensures.ok) _ _ (RefusesListing c.args.building.comments) _ c.put_bytes.ensures.err
