-- The place of a fault lies in the file; where the header has no fault, the counts are in their ranges.
use Rattle.std.proofs.Common.{◌∙◌, sym, arith}
use Rattle.file_laws.proofs.Laws.{behind-header, file-seen, place_inside}
use Rattle.book_listing.proofs.show.Goals as goal

pub show_until-requires : goal.show_until-requires
show_until-requires g c =
    let e = sym c.read-reading.ensures ∙ c.in-Ok.is in
    (omega arith, λ _. (file-seen c.args.file.now _ e).header.ranges)

pub show_until-requires-in-Err : goal.show_until-requires-in-Err
show_until-requires-in-Err g c =
    let e = sym c.read-reading.ensures ∙ c.in-Err.is in
    (place_inside c.args.file.now c.in-Err.fault.reason c.in-Err.fault.place e, behind-header c.args.file.now e)
