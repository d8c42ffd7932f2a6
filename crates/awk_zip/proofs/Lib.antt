mod Worked
mod OverLaws
mod RowLaws
mod CountLaws
mod SizeLaws
mod ZipLaws
mod DataLaws
