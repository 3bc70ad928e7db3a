use Rattle.pp_propagation.proofs.StoreRows.{face_is_row, apply_is_row, face-count, face-variables, apply-count}
use Rattle.pp_propagation.proofs.laws.faces_and_stores_are_rows.Goals as goal

pub returns-clause-faces : goal.returns-clause-faces
returns-clause-faces c = λ store g h. (face_is_row store g h, face-count store g, face-variables store g)

pub returns-clause-stores : goal.returns-clause-stores
returns-clause-stores c = λ store g given h k. (apply_is_row store g given h k, apply-count store g given)
