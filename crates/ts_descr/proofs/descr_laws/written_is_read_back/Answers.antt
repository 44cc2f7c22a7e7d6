use Rattle.ts_descr.proofs.descr_laws.written_is_read_back.Goals as goal

pub returns : goal.returns
returns c = λ pages p h d found sound exact fit whole written. record {
  again = c.written_is_typed.ensures pages p h d found sound fit written;
  alone = λ e e_whole is. c.typed_is_written.ensures pages p h e d found exact e_whole whole is written;
}
