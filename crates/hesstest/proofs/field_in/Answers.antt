use mathlib.Core.List.{[]}
use Rattle.hesstest.proofs.FieldLaws.{field-made}
use Rattle.hesstest.proofs.field_in.Goals as goal

pub returns : goal.returns
returns c = field-made c.args.field.now [] c.told-field c.rival_in.ensures c.rival_in-2.ensures c.rival_in-3.ensures c.rival_in-4.ensures c.rival_in-5.ensures c.rival_in-6.ensures c.rival_in-7.ensures c.rival_in-8.ensures
