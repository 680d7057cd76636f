pub mod JudgedCells
