use Rattle.std.proofs.Common.{subst, sym}
use Rattle.plan_language.specs.Texts.{GivesPlan}
use Rattle.plan_language.proofs.Reading.{any_listed}
use Rattle.plan_language.proofs.parser.parse_any.Goals as goal

pub returns-in-Some-listing_version_in : goal.returns-in-Some-listing_version_in
returns-in-Some-listing_version_in c =
    let told = c.in-Some-listing_version_in in
    subst (GivesPlan c.parse_listed.result)
    (sym (any_listed c.args.text.now c.in-Some.header.now c.in-Some.rest.now told.version c.in-Some.ensures.parts
    told.ensures.value))
    c.parse_listed.ensures
